pub mod Readers
pub mod Readings
pub mod Texts
pub mod Recoveries
