-- What is added to the fact table and to the queue, insertion, and the way back.
pub mod Growth
pub mod Additions
pub mod Insertion
pub mod Restoring
