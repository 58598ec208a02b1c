-- What a reader must believe of `lanegravel` itself: the rest stands in the crates below.
pub mod Places
