pub mod PassTurns
pub mod Passes
pub mod Apart
pub mod TargetLaws
pub mod Later
