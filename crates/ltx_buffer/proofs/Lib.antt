pub mod Search
pub mod Splits
pub mod Rows
pub mod Merges
pub mod Keys
