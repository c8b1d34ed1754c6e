-- Laws of the selection list, of how statements come to stand in it, and of its groups.
pub mod Counting
pub mod Storing
pub mod Steps
pub mod Appended
pub mod Stands
pub mod Theorems
