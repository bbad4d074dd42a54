pub mod Evaluation
pub mod Decoding
pub mod Checked
pub mod Places
pub mod Evaluated
pub mod Counted
