-- The step from a set of variables by a feature, and what a path leads to.
pub mod Sets
pub mod Walks
