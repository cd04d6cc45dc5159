pub mod Programmes
pub mod Racks
