-- What the guard's number says once it is 0.
pub mod Guards
