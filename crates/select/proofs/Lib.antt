-- What the proofs of `select` cite.
pub mod Words
