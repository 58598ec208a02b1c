-- What a reader must believe of the questions that `level_gray` and `unlevel` put.
pub mod Questions
