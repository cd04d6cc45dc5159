pub mod Walk
pub mod Fills
pub mod Element
