-- A notification comes after the earlier writes of its lane; messages come in the order in which they were sent; the numbers of groups rise.
pub mod Groups
pub mod Messages
pub mod Notifications
pub mod Posts
pub mod Collectives
