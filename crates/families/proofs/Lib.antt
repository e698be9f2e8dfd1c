pub mod Widths
pub mod Constants
pub mod Chunks
pub mod Signs
