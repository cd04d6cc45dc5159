pub mod Filling
pub mod Chosen
pub mod Adding
pub mod Stages
pub mod Growth
pub mod Laws
