-- What a reader must believe of `math`: each float step of document 01, over `lib.Ieee`'s operations. `Steps` is not needed to read the contracts.
pub mod Constants
pub mod Rounding
pub mod Select
pub mod Sum
pub mod Near
pub mod Steps
