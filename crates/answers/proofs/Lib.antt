-- Laws that answers by value need beside the contracts that they pass on.
pub mod Answered
pub mod Part
