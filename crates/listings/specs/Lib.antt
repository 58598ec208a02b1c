-- What a reader must believe of `listings`: the sets of a listing, by number.
pub mod Listed
