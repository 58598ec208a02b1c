-- Laws of the rule that a list of pairs makes.
pub mod Rule
