-- The check of a sheet: the replies to its questions, its outcome, what it writes, the labels told, and what these mean.
pub mod Replying
pub mod Steps
pub mod Roots
pub mod Paths
