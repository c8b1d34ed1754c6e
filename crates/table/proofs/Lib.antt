-- Laws of the fact table: what cells say, where they stand, a table with another cell, and the queue's entries.
pub mod Saying
pub mod Stores
pub mod Entries
pub mod Bounds
