-- What a reader must believe of the sets of boxes: document 01's touching of boxes. `Steps` only functions cite.
pub mod Boxes
pub mod Steps
