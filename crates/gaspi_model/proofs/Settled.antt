-- A settled state has empty lanes, and stays settled.
pub mod EmptyLanes
pub mod Stays
