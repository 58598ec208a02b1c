-- What a reader must believe of the widths of boxes. `Steps` only functions cite.
pub mod Widths
pub mod Steps
