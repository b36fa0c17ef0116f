pub mod Likes
pub mod Parts
pub mod Repeats
