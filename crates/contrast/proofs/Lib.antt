-- Laws of darkest pixels and their mean.
pub mod Lines
pub mod Mean
pub mod Bound
