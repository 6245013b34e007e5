pub mod Rounds
pub mod KeptContributions
pub mod RoundBuffers
