-- The laws that `unlevelling`'s proofs cite.
pub mod Places
