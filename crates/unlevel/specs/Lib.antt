-- What a reader must believe of `unlevel`.
pub mod Call
