-- What a reader must believe of the lists that are written of tables and free rulings. `Steps` is not needed to read the contracts.
pub mod Answers
pub mod Steps
