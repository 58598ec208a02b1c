-- What a reader must believe of `contrast`. `Steps` is not needed to read the contracts.
pub mod Contrast
pub mod Steps
