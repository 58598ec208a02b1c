-- What a reader must believe of `segments`: what the call promises. `Steps` is not needed to read the contracts.
pub mod Call
pub mod Steps
