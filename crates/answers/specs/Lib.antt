-- What a reader must believe of answers by value, beside the definitions of the crates below.
pub mod FindingAt
pub mod Mapped
pub mod MembersOf
