pub mod Answers
pub mod Arrows
pub mod Deliveries
pub mod Diagram
pub mod JsonLines
pub mod OpenEntries
pub mod Trace
