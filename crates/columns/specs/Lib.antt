pub mod Faults
pub mod Grounds
pub mod Lists
pub mod Meanings
pub mod OffsetColumn
pub mod Rows
