-- The full report: what is in it, how much, and the book beside it.
pub mod Messages
pub mod Tells
pub mod SmallReport
pub mod Bounds
pub mod Book
