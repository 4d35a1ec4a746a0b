pub mod Block
pub mod Cuts
pub mod Decimals
pub mod Lines
pub mod Pieces
pub mod Readings
pub mod Words
