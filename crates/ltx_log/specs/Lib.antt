pub mod Causes
pub mod Images
pub mod Readings
pub mod Making
pub mod Running
