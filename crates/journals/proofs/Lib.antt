-- Laws that stand on several functions; callers cite Running and those on determinacy.
pub mod Stepping
pub mod Turning
pub mod Padding
pub mod Putting
pub mod Decimal
pub mod AnswerTexts
pub mod Keeping
pub mod Printing
pub mod Running
pub mod Determined
pub mod DeterminedLines
