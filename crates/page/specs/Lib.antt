pub mod Page
pub mod Lent
pub mod Questions
pub mod Answer
pub mod Call
pub mod Steps
