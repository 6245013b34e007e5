pub mod Answers
pub mod Changes
pub mod Found
pub mod Held
pub mod ListPosts
pub mod PostKinds
pub mod Segments
pub mod Stops
