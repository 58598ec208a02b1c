-- What a reader must believe of rulings: those that closed sets of pieces make. `Steps` is not needed to read the contracts.
pub mod Rulings
pub mod Steps
