-- What an accepted sheet is, and what is collected of it.
pub mod Accepted
pub mod Collect
pub mod RowBytes
pub mod RowTrees
