-- Why the folds that are chosen are all of them.
pub mod Chosen
