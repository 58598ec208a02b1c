-- The joined ends and their share are those of `meeting`. What only functions cite is not needed to read the contracts.
pub mod Steps
