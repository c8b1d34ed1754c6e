-- Demand 3: from the trees to what each answer means.
-- trees obey the rules, and so does a closed structure
pub mod Nodes
pub mod Structures
-- the least solution of a structure
pub mod Lookups
pub mod Sets
pub mod Paths
pub mod Least
-- extensions of a structure: one child more, and a chain of them
pub mod Extensions
pub mod Depth
pub mod Child
pub mod ChildLaws
pub mod ChildSupport
pub mod ChildRank
pub mod Chain
-- saturation: children for a list of questions, then marks
pub mod Preparation
pub mod Marks
pub mod Marked
pub mod Shown
pub mod Saturation
-- the derived facts: true of trees, and a structure where they do not clash
pub mod Sound
pub mod Derivations
-- what follows for a sheet
pub mod Independence
pub mod Choices
pub mod Answering
pub mod Meaning
pub mod Demands
