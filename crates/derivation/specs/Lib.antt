-- Descent, the settled table, and when statements stand in the list of pairs.
pub mod Descent
pub mod Settled
pub mod Stands
