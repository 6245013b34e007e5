pub mod Alike
pub mod Answering
pub mod Giving
pub mod Members
pub mod Opening
pub mod Represents
pub mod RoundSteps
