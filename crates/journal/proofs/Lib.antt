-- Laws that stand on several functions.
pub mod Arriving
pub mod Stepping
pub mod Stages
pub mod Whole
pub mod Idle
