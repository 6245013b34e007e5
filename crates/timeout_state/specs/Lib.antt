pub mod Looks
pub mod Pendings
