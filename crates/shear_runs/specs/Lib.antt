-- What the contracts of `shear_runs` say. `Steps` is not needed to read the contracts.
pub mod Steps
