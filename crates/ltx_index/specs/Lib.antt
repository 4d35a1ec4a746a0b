pub mod Pairs
pub mod Places
pub mod Leaves
pub mod Heads
