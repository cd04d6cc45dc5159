-- What the contracts of this crate cite beside the paper.
pub mod Blocks
pub mod Say
pub mod Going
pub mod Frames
pub mod Promises
