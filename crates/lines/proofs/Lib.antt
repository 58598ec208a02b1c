-- Why the line numbers are right.
pub mod Sorted
