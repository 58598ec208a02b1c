-- Why the grids are right: laws that belong to no one function.
pub mod Choosing
pub mod Demand
pub mod Filling
pub mod Passing
pub mod Accepting
