pub mod Asked
pub mod Contradicted
pub mod Earliest
pub mod Lates
pub mod Refusals
pub mod Waits
pub mod Witnesses
pub mod WrittenKeys
