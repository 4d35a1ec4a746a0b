pub mod Fronts
pub mod Hints
pub mod PartLemmas
pub mod Rising
pub mod RowsRead
pub mod WorkedRecoveries
