-- What a reader must believe of `layout`: the questions about sides, tables and rectangles, levelling, and the way back to the page.
pub mod Raster
pub mod Sides
pub mod Tables
pub mod Level
pub mod ToPage
pub mod Call
-- Not needed to read the contracts.
pub mod Steps
