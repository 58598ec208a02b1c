-- Why boxes are joined rightly: laws that belong to no one function.
pub mod Rows
pub mod Nexts
pub mod Sweeps
