pub mod Views
pub mod Slots
pub mod Seen
pub mod Operations
pub mod Same
