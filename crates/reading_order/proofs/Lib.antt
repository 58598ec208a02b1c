-- Why the reading order is right: laws that belong to no one function.
pub mod ReadingOrder
