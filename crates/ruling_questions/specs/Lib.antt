-- What a reader must believe of the questions that `segments` puts. `Steps` is not needed to read its contract.
pub mod Questions
pub mod Lent
pub mod Steps
