-- Laws of calls that list sets.
pub mod Answers
pub mod Rooms
