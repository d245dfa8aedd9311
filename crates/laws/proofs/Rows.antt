-- Definitions over rows, and tables that hold them.
pub mod RowTable
pub mod Fuel
