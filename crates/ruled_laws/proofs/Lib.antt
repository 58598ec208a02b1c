-- The laws of the rulings and tables of a page.
pub mod Strung
pub mod Places
pub mod Tabled
pub mod Ruled
