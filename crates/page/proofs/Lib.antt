-- What the proofs of the crates above say of a page's struct.
pub mod Fields
-- Laws of arrays of lent lists.
pub mod Bundle
pub mod Arrays
