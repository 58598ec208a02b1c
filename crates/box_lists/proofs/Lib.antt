-- Laws of the list of boxes.
pub mod EveryBox
pub mod Listing
