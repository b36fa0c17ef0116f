pub mod Numbers
mod Sums
mod Blocks
mod Fields
