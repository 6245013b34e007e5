pub mod Changes
pub mod Registry
