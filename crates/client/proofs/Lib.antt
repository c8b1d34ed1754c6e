-- The reply decides.
pub mod Dropped
