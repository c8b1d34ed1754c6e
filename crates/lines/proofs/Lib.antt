-- Laws of lines: which stands at which number, how long they are, which fit into an array, what a checked sheet has, and what
-- their text tells.
pub mod Cases
pub mod Labels
pub mod Rows
pub mod Runs
pub mod Numbering
pub mod Fitting
pub mod Following
pub mod Beyond
pub mod Checked
pub mod Words
pub mod Spelling
pub mod Telling
pub mod Meaning
pub mod Theorems
