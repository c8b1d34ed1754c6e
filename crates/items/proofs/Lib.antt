-- Laws that belong to no one function, from fields behind a subject up to runs of items.
pub mod PathFields
pub mod Places
pub mod Filled
pub mod Lawful
pub mod Runs
