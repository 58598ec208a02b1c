-- What the questions of `unlevel` say once they are passed, and `level_gray` and `unlevel` one after the other.
pub mod Guards
pub mod RoundTrips
