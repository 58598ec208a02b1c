-- What the contracts of `ranks` say. `Ranks` is what the ranking promises; `Merge` only its inner functions cite. `Steps` is not needed to read the contracts.
pub mod Ranks
pub mod Steps
