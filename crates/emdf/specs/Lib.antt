pub mod Say
pub mod Promises
