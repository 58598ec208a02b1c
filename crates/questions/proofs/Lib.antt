-- The laws of the first missed question, which guards cite.
pub mod FirstMissed
pub mod Numbers
