-- Laws of the call.
pub mod Accepted
pub mod Call
pub mod Bound
