pub mod Derives
pub mod Given
pub mod Post
pub mod Tests
