-- Laws of what is added to the fact table, of insertion, and of the way back.
pub mod Joined
pub mod Sets
pub mod Growing
pub mod Moving
pub mod Stepping
pub mod Takes
pub mod Inserting
pub mod Restores
