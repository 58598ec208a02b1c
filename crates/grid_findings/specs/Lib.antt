-- The boxes that grids' findings are made from, as they are lent.
pub mod Boxes
