pub mod Looks
pub mod LentLooks
pub mod Worlds
pub mod Transfers
