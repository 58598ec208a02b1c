-- Why the lists of findings are right: laws that belong to no one function.
pub mod Placed
pub mod Storing
pub mod Writing
