-- Numbers within a gap of each other, in closed sets, and what a call that lists sets answers.
pub mod Answers
pub mod Gaps
