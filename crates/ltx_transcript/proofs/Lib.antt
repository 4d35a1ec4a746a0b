pub mod Gives
pub mod Placing
