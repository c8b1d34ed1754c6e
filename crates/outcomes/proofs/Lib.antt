-- What is known of what is accepted or refused, of buffers that serve every sheet, of counts, and of a packed outcome.
pub mod Judging
pub mod Serving
pub mod Counted
pub mod Packed
