-- What the questions of `level_gray` say once they are passed.
pub mod Guards
