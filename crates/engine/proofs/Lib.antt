-- Laws of the replies and of the check.
pub mod Answered
pub mod Reading
pub mod Told
pub mod Going
pub mod Steps
pub mod Whole
pub mod Leaving
pub mod Asking
pub mod Meaning
