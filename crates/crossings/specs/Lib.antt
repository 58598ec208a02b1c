-- The closed sets of rulings are those of `meeting`. What only functions cite is not needed to read the contracts.
pub mod Steps
