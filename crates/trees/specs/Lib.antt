-- Feature trees, assignments of them, and what each answer means.
pub mod Trees
pub mod Assignments
pub mod Demand
