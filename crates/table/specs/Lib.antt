-- The fact table, cell by cell, and the queue of changed cells.
pub mod Cells
pub mod Queue
