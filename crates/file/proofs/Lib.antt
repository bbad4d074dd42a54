pub mod Forms
pub mod Putting
pub mod Delivering
pub mod Receiving
pub mod Apart
