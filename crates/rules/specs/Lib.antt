pub mod Kept
pub mod Named
pub mod Shown
