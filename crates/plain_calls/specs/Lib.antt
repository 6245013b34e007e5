pub mod Looks
pub mod Memory
pub mod NumberBounds
pub mod Segments
pub mod Registrations
pub mod Rounds
