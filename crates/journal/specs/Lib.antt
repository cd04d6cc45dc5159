-- What the contracts of this program cite.
pub mod Waits
pub mod Reads
pub mod Steps
