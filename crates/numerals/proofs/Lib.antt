-- Laws of numerals.
pub mod Steps
pub mod Digits
pub mod Parts
pub mod Theorems
pub mod Filling
