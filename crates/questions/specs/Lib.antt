-- What a reader must believe of `questions`: the number that a refused call returns.
pub mod Questions
pub mod Missed
