pub mod BitLaws
pub mod Bytes
pub mod Chars
pub mod Edges
pub mod Reading
pub mod Scalars
pub mod Texts
pub mod Widths
