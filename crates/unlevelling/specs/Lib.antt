-- What the contracts of `unlevelling` say. `Steps` is not needed to read the contracts.
pub mod Steps
