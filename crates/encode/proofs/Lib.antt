mod Rows
mod Filling
mod Sequences
