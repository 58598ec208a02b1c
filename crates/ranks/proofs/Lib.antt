-- Why the ranks are right: laws that belong to no one function.
pub mod Laws
pub mod Merging
pub mod Stored
pub mod Joined
