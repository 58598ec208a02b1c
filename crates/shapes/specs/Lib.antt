-- What a reader must believe of the shape of a set: document 01's lines, set minima and tables.
pub mod Shapes
pub mod Steps
pub mod Limits
