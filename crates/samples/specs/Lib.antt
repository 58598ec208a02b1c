-- What a reader must believe of `samples`: the starred sample forms of document 01, worked by the definitions.
pub mod Starred
