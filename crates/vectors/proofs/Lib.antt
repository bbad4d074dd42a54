pub mod Differing
pub mod Decodings
