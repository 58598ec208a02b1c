-- Laws of samples and their median.
pub mod Many
pub mod Pixels
pub mod Places
pub mod Sampling
pub mod Median
pub mod Levels
