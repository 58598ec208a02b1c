-- What a reader must believe of rule pieces: document 01's direction, doubled centre and touching. `Steps` only functions cite.
pub mod Pieces
pub mod Steps
