-- The laws that `levelling`'s proofs cite.
pub mod Paint
pub mod Settle
