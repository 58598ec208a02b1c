-- What a reader must believe of a finding: its kinds and their numbers, evidence and log odds, and how each kind is scored.
pub mod Finding
pub mod Score
pub mod Kinds
