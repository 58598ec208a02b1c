-- Why `detect` keeps its promise.
mod Finds
pub mod Answering
-- Of arrays of lent lists.
pub mod Fits
