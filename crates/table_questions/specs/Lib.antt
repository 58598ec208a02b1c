-- What a reader must believe of the questions that `tables` puts.
pub mod Questions
pub mod Lent
