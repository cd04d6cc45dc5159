-- What the contracts of this crate cite beside the paper.
pub mod Rules
pub mod Promises
