pub mod Bitmap
pub mod Offsets
pub mod Scalars
pub mod Spelt
pub mod Utf8
