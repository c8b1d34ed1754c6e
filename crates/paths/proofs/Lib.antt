-- Laws of sets and walks.
pub mod Children
pub mod Walks
