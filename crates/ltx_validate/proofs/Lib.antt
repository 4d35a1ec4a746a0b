pub mod Keys
pub mod Cells
pub mod Walks
pub mod Points
pub mod Ways
pub mod Outcomes
pub mod HeldTables
