-- What a reader must believe of `rects`: rectangles, questions 5 and 6, and the smallest rectangle around a set. `Steps` is not needed to read the contracts.
pub mod Rects
pub mod Around
pub mod Steps
