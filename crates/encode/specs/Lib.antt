pub mod Filled
pub mod Files
pub mod Pages
