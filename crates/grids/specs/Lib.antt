-- What a reader must believe of `grids`, with `box_sets` and `reading_order`: document 01's "Boxes and grids" for `box_grids`.
pub mod Grids
pub mod Lent
pub mod Call
-- Not needed to read the contract.
pub mod Steps
