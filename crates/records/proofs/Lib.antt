pub mod Little
pub mod Bodies
pub mod Records
pub mod RowParts
pub mod Widths
