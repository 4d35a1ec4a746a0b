pub mod Fronts
pub mod Loops
pub mod OrderLemmas
pub mod EventLemmas
pub mod Fields
pub mod Bodies
