-- What a reader must believe of `params`: questions 2 and 7 to 13 of document 01, each a test that computes, decided by IEEE comparison, and
-- the limits in pixels. `Steps` is not needed to read the contracts.
pub mod Constants
pub mod Scan
pub mod Settings
pub mod Limits
pub mod Steps
