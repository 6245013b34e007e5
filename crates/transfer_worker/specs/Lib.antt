pub mod Order
pub mod QuietRanks
pub mod StillRanks
pub mod Turns
