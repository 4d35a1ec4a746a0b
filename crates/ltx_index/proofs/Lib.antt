pub mod Joined
pub mod Leaves
pub mod Lookups
pub mod Places
pub mod Heads
