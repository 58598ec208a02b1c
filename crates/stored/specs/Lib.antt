-- What a reader must believe of `stored`: what the words of a text are.
pub mod Texts
