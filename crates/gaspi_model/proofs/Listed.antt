-- Transfers are listed exactly, once, in order, and what may come next is a step.
pub mod Enabled
pub mod Joinable
pub mod Joining
pub mod Order
pub mod Readiness
pub mod Recorded
pub mod Steps
