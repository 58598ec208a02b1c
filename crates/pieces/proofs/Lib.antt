-- Why pieces are joined rightly: laws that belong to no one function.
pub mod Touching
pub mod Rows
