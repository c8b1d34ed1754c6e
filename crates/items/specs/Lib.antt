-- Records and questions of a sheet, paths, and what they state and ask.
pub mod Paths
pub mod Items
pub mod Statements
pub mod Questions
