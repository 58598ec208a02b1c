-- Laws of lists that several crates use.
pub mod Written
pub mod Keep
pub mod Every
pub mod Sizes
pub mod Gathered
pub mod Stores
pub mod Putting
pub mod Runs
