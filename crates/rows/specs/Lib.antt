-- Sets of variables as rows of bits.
pub mod Rows
