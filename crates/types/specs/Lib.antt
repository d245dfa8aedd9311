pub mod Folded
pub mod Walk
pub mod Named
pub mod Reasons
pub mod Found
pub mod Post
