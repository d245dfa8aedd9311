pub mod Tables
pub mod Listed
pub mod Upward
