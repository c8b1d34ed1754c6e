-- What is told of a closed fact table.
pub mod Clashes
pub mod Counts
pub mod Roots
pub mod Supports
