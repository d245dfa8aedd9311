pub mod OneMore
pub mod Stored
pub mod Zeroed
