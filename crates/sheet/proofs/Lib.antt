-- Laws of the header and of the whole sheet that belong to no one function.
pub mod Heads
pub mod Accepting
pub mod Named
pub mod Longest
pub mod Theorems
pub mod Asked
pub mod Beyond
pub mod Inside
