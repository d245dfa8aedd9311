pub mod Appends
pub mod Put
