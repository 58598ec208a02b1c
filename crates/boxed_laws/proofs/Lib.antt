-- What question 14 says of each lent list, and what is given of a page's boxes and grids.
pub mod Boxed
pub mod Room
