-- The sentences that users rest on, each a theorem, and what they are shown by.
pub mod Shown
pub mod Clashes
pub mod Told
pub mod Numbers
pub mod Above
pub mod WithLabel
pub mod Theorems
pub mod Buffers
pub mod Beyond
