-- Laws of runs of columns and of bytes, and of the parts and areas that steps write.
pub mod Agree
pub mod Runs
pub mod Parts
pub mod Areas
