pub mod Counts
pub mod Heads
pub mod MovableLanes
pub mod Nonempty
pub mod Queues
pub mod Rings
pub mod Rising
pub mod TargetSets
