pub mod Answers
pub mod Viewing
pub mod Words
