-- What a reader must believe of the reading order of a set of boxes. `Steps` only functions cite.
pub mod Reading
pub mod Steps
