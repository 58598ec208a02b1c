-- Why bands of columns may be passed over.
pub mod Banded
