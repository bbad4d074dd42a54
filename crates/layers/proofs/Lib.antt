pub mod Trim
pub mod Scale
