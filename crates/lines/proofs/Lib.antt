mod Decimal
pub mod Laws
pub mod Parts
pub mod Whole
