-- What a reader must believe of `level_gray`.
pub mod Call
