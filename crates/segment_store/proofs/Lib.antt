pub mod Kept
mod ListPosts
mod OneTransfer
pub mod Found
pub mod Written
