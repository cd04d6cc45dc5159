-- The ways that the calls by rule can end; callers cite Determined.
pub mod Answers
pub mod Determined
