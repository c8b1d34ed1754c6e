-- Laws of trials, and all that is told of statements in the lent lists.
pub mod Trying
pub mod Searches
pub mod TryingSelection
pub mod Tried
pub mod Questions
pub mod Theorems
