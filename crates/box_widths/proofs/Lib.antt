-- Laws of similar widths.
pub mod SimilarWidths
