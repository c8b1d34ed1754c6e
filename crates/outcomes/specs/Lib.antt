-- What is refused, what a closed table tells, and the outcome as one number.
pub mod Judged
pub mod Closed
pub mod Outcomes
