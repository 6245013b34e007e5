pub mod Adding
pub mod Rising
