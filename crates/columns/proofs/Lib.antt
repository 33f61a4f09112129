pub mod Errors
pub mod Lengths
pub mod Making
