-- What the functions of `sorted` ask and leave; none of it is needed to read the contracts of the calls.
pub mod Steps
