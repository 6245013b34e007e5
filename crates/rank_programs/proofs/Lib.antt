pub mod Answering
pub mod BodyRuns
