-- What the contracts of `ink_bands` say. `Steps` is not needed to read the contracts.
pub mod Steps
