-- What a check of any bytes returns and leaves, what labels are told, and what these mean.
pub mod Checks
pub mod Promise
pub mod Labels
pub mod Roots
pub mod Paths
