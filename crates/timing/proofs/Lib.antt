-- Laws and the proofs that stand on several functions; callers cite Determined.
pub mod Turns
pub mod Pairs
pub mod Rules
pub mod Agreeing
pub mod Carrying
pub mod Over
pub mod Uncarried
pub mod Determined
