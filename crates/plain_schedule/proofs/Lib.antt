pub mod Declared
pub mod Good
pub mod Iterations
pub mod Joins
pub mod JoinsFollowed
pub mod OwnValues
mod Room
pub mod Running
pub mod RunningAll
pub mod RunningEnds
pub mod ScheduleLoop
pub mod Started
pub mod Work
