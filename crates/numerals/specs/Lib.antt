-- Numbers as text in base ten.
pub mod Numerals
