pub mod Entries
pub mod Looking
pub mod Machine
pub mod Footprints
pub mod NonemptyLanes
pub mod Words
pub mod RankCounts
