pub mod Batches
pub mod Looks
pub mod Merges
pub mod Nexts
pub mod Noted
pub mod Places
pub mod Sites
pub mod Stamped
