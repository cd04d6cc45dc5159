-- Laws and the proofs that stand on several functions; callers cite KindLaws, Written, Puts, Parts, Rows, Tests, Keeping, Faults and Determined.
pub mod KindLaws
pub mod Lists
pub mod Written
pub mod Storing
pub mod Puts
pub mod Rows
pub mod Parts
pub mod Tests
pub mod Keeping
pub mod Faults
pub mod Resets
pub mod Determined
