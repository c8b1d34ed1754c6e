-- Trials, and what is made for them.
pub mod Trials
pub mod Told
pub mod Making
