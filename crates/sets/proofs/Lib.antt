-- Why the code's listings are the closed sets.
pub mod Roots
pub mod Chains
pub mod Represents
pub mod Joins
pub mod Pairs
pub mod Sweeps
pub mod Ascending
pub mod Classes
pub mod Grown
pub mod Where
pub mod NotListed
pub mod Domain
pub mod Reordered
pub mod Sizes
pub mod Labels
pub mod Listings
