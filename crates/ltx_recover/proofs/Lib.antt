pub mod Numbers
pub mod Stamps
pub mod Collected
pub mod Bounds
pub mod Unlawful
pub mod Bases
