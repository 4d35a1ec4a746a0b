pub mod InTime
pub mod Parts
