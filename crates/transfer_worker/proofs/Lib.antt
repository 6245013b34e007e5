pub mod InOrder
pub mod StillRanks
pub mod TriedRanks
