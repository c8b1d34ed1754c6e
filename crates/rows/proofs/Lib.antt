-- Bits, rows word by word, and their members.
pub mod Bits
pub mod Words
pub mod Members
pub mod Found
