-- What a reader must believe of the findings of a page: which are made from what was found, and their order. `Steps` only its functions cite.
pub mod Made
pub mod Keys
pub mod Pairing
pub mod Steps
