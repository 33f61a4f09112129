pub mod Layout
pub mod Kinds
pub mod Formats
