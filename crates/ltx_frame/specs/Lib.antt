pub mod Events
pub mod Readings
pub mod Readers
pub mod Orders
