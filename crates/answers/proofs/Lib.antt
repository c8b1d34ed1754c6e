-- Laws of what is told of a closed fact table.
pub mod Logic
pub mod Ranges
pub mod Firsts
pub mod Clashed
pub mod OneLabel
pub mod LabelThere
pub mod Below
pub mod Shown
