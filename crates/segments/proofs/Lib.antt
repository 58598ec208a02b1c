-- Why the rulings are right: laws that belong to no one function.
pub mod Accepted
pub mod Order
pub mod Demand
pub mod Core
pub mod Call
