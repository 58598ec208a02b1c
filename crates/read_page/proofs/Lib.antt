-- Why reading a page leaves its answers.
pub mod Known
pub mod Ruled
pub mod Boxed
pub mod Listed
