-- The laws of float steps that the crates above `math` cite.
pub mod Value
pub mod Ulp
pub mod Bound
pub mod Mean
pub mod Sums
pub mod SumBound
pub mod Quotient
pub mod Rounded
pub mod Order
pub mod Tests
pub mod Limit
