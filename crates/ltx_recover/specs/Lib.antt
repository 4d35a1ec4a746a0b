pub mod Members
pub mod Orders
pub mod Frames
pub mod Stamps
