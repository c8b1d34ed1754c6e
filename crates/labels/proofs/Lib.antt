-- Laws of labels as they are kept, of questions that cannot clash, and of labels that are told.
pub mod Kept
pub mod Skip
pub mod Told
