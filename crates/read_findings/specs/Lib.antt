-- What a reader must believe of a finding that is read back from its lists. `Steps` only functions cite.
pub mod Read
pub mod Steps
