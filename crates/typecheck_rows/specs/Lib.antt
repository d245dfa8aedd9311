pub mod Given
pub mod Tests
