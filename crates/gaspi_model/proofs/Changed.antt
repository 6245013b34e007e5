-- What events change: puts, takes, stores, atomics, posts, queues, messages, groups, segments that are made, deleted or told.
pub mod Ends
pub mod GroupCalls
pub mod Joins
pub mod Known
pub mod Messages
pub mod OwnCalls
pub mod Posted
pub mod Puts
pub mod QueueCalls
pub mod Registered
pub mod Transfers
pub mod Written
