pub mod Twins
