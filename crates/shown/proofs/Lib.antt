-- The proof that stands beside the functions.
pub mod Determined
