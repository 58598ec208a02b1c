-- Why what is read back is what was put.
pub mod Reading
