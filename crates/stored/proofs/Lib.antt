-- Why the words of a text are read in its order.
pub mod Reading
