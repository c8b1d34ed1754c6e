-- The lists in which the statements of a sheet stand.
pub mod Lists
