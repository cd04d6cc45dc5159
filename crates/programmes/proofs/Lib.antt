-- The theorems of request Q-7, over a programme of frames.
pub mod Branches
pub mod Heard
pub mod EachSample
pub mod RuleOne
pub mod FrameKinds
pub mod CarriedRamp
pub mod AfterRamp
pub mod OwnFrame
pub mod Dropped
pub mod Kindred
pub mod CarriedForms
pub mod CarriedOutcomes
pub mod Shelves
pub mod CarriedTabled
pub mod CarriedCases
pub mod HeldRows
