-- The printed outcome of a sheet, a printout as the code holds it and what a check leaves for it, whole lines written into a
-- lent array, and two inputs of which the same is told.
pub mod Lines
pub mod Printouts
pub mod Told
pub mod Blocks
pub mod Alike
