-- What a reader must believe of `tables`: document 01's "Tables". `Steps` is not needed to read the contracts.
pub mod Call
pub mod Steps
