-- What the functions of sums cite.
pub mod Mapped
