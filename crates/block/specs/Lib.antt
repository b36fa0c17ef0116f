pub mod Bytes
pub mod Block
pub mod Fields
pub mod Left
