pub mod Edges
pub mod Parts
pub mod Turns
pub mod Leading
pub mod Sorting
pub mod TierTurns
pub mod Callers
