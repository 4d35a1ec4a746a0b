pub mod Commands
pub mod Lines
pub mod Readers
pub mod Rising
pub mod Causes
