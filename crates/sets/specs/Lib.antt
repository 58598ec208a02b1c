-- Closed sets of indexes, and the parents by which the code finds them. `Steps` is not needed to read the contracts.
pub mod Closed
pub mod Listing
pub mod Steps
