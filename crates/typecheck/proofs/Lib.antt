pub mod DeriveLaws
pub mod Faults
pub mod Faulty
pub mod GivenParts
pub mod Meant
pub mod Returns
