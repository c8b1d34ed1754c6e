-- Facts that follow from the statements of a sheet, clash, paths, labels at paths, support and replies.
pub mod Connectives
pub mod Stated
pub mod Facts
pub mod Tables
pub mod Derived
pub mod Clashes
pub mod Verdicts
pub mod Paths
pub mod Roots
pub mod Support
pub mod Replies
pub mod Demand
pub mod Cases
