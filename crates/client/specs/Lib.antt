-- When a run-time test may be left out.
pub mod Dropping
