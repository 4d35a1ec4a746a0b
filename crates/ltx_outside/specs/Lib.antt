pub mod Contents
pub mod Crash
pub mod Faults
pub mod Memory
pub mod Reads
