pub mod Blocks
pub mod Faults
pub mod Source
pub mod Sink
pub mod Memory
pub mod Standard
