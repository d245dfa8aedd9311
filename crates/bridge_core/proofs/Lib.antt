pub mod Parts
pub mod Whole
pub mod RunLaws
pub mod RunCases
