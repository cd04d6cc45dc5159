pub mod Asking
pub mod Bounds
pub mod Numbers
pub mod Wording
pub mod Steps
pub mod MarkBits
