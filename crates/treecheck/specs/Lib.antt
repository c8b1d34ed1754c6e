-- What is written of a sheet, also where reading or writing fails.
pub mod Writing
