-- The selection list, its groups, the steps that make them, and a selection on trial.
pub mod Listed
pub mod Groups
pub mod Stands
pub mod Places
pub mod Sorting
pub mod Trial
