-- Why the casts are right, and the rounding.
pub mod Cast
pub mod Ends
pub mod Nearest
