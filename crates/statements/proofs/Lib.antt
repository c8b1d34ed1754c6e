-- How statements come to stand in the lists.
pub mod Putting
pub mod Records
pub mod Bounds
