-- Sets of names, and last items.
pub mod NameSets
pub mod Sets
pub mod SetMembers
pub mod LastItems
pub mod ImproperSearch
