-- Laws of ink, of the places that pass a test, and of runs.
pub mod Counts
pub mod Places
pub mod Runs
