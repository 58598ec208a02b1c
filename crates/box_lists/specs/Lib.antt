-- What a reader must believe of the boxes of a page. `Steps` is not needed to read the contracts.
pub mod Boxes
pub mod Lent
pub mod Steps
