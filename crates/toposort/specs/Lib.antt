pub mod Leads
pub mod State
pub mod Post
