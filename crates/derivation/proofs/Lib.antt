-- Laws of descent and of the run of the queue, and how pairs stand in lists.
pub mod Descending
pub mod Runs
pub mod Equal
pub mod Derivations
pub mod Stands
