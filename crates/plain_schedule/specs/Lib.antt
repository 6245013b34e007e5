pub mod Endings
pub mod Generator
pub mod Joins
pub mod Schedule
