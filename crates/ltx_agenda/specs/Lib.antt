pub mod Runs
pub mod Seats
pub mod Placed
pub mod Lanes
pub mod Marks
