-- The format of a sheet, its header and the whole of it, and what it states and asks.
pub mod Headers
pub mod Told
pub mod Sheets
pub mod Numbered
pub mod Parts
pub mod Readings
