-- Why the finding of the free rules is right.
pub mod Free
