pub mod Chains
pub mod Declarations
pub mod Items
pub mod MaskBits
pub mod Extents
pub mod Found
pub mod SinglePosts
pub mod Written
mod InType
