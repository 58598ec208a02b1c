-- What a reader must believe of `boxes`: the call's promise.
pub mod Call
