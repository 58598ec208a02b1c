-- What a reader must believe of rulings that meet: document 01's touching and joined ends.
pub mod Chosen
pub mod Segments
pub mod Meeting
pub mod Steps
