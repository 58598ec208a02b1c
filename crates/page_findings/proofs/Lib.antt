-- Why the findings that are left are the page's.
pub mod Writing
pub mod Making
pub mod Composed
-- Of arrays of lent lists.
pub mod Kept
