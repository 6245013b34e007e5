-- A step reads and changes the shards of its event alone.
pub mod Lifting
pub mod Steps
