-- What the contracts of this crate cite beside the paper.
pub mod Say
pub mod Promises
pub mod Turns
pub mod Texts
pub mod Buffers
pub mod Padded
pub mod Prints
pub mod Runs
