pub mod Reading
pub mod AcceptedNumbers
pub mod NeededNumbers
pub mod Ranges
pub mod FirstWords
pub mod GivenNumbers
pub mod GivenWhy
pub mod GivenBench
