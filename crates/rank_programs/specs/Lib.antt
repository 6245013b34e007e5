pub mod Answers
pub mod Callers
pub mod ThreadBodies
