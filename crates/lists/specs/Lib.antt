-- What several crates say of lists.
pub mod Lists
