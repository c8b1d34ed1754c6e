-- The labels of each variable as they are kept, how many differ, and those that are told.
pub mod Labels
pub mod Spreads
pub mod Roots
