pub mod OnItsWay
pub mod Written
pub mod GivenBytes
