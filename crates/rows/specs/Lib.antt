-- What the contracts of this crate cite beside the paper.
pub mod Kinds
pub mod Say
pub mod Places
pub mod Retained
pub mod Promises
