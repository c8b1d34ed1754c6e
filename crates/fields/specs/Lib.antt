-- Fields of a sheet, from tests on bytes on.
pub mod Tests
pub mod Limits
pub mod Refusals
pub mod Fields
