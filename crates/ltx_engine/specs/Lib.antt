pub mod Views
pub mod Stands
pub mod Images
pub mod Crashes
pub mod Faults
pub mod Causes
pub mod Steps
pub mod Openings
