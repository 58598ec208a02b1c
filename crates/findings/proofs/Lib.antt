-- Why the findings are right: laws that belong to no one function.
pub mod Fronts
pub mod OnPage
pub mod All
pub mod Ordered
pub mod Pairs
pub mod Given
pub mod FirstKeys
pub mod Runs
pub mod Writes
pub mod Demand
pub mod Whole
