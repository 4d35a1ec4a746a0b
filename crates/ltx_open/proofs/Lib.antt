pub mod Results
pub mod SameOpens
pub mod GetsAtMark
pub mod ScansAtMark
pub mod Judged
pub mod SlotChanges
