pub mod Holding
pub mod Mapped
