-- Laws and the proofs that stand beside the functions.
pub mod Promised
pub mod Determined
