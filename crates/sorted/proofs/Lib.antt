-- Why a sort by keys leaves the indexes in order, and what stands past a key.
pub mod Arranged
