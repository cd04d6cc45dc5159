pub mod Bits
pub mod Faults
pub mod Parsed
pub mod Reads
pub mod Say
