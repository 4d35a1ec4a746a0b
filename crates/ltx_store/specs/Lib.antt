pub mod Kept
pub mod Latest
pub mod Newest
pub mod Pairs
pub mod Scans
pub mod Walks
