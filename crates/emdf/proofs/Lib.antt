-- Laws and the proofs that stand beside the functions.
pub mod Cuts
pub mod Reading
pub mod Turns
pub mod GroupLaws
pub mod Nearness
pub mod Places
pub mod ListLaws
pub mod Bytes
pub mod Copying
pub mod Answers
pub mod Kept
pub mod Determined
