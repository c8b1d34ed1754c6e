-- Laws that belong to no one function, from tests up to fields.
pub mod Choice
pub mod Chains
pub mod Extents
pub mod Runs
pub mod Rows
pub mod Bounds
