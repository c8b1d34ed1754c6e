-- The worked cases; then demand 2: the derived table is the smallest closed set of facts, and what engine and theory
-- take from it.
pub mod Cases
pub mod Logic
pub mod Some
pub mod Lists
pub mod More
pub mod Stored
pub mod Labels
pub mod Supported
pub mod Cells
pub mod Tables
pub mod Counts
pub mod Rules
pub mod Rounds
pub mod Derived
pub mod Clashing
pub mod Paths
pub mod Roots
pub mod Demand
pub mod Bytes
