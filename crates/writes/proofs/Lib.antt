pub mod Writes
pub mod ReadBack
pub mod GroupsBack
pub mod WriteCases
