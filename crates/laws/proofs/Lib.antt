-- lists, tests, sums and digits
pub mod Base
-- graphs, the walk over them, and tiers
pub mod Graph
-- sets of names, and last items
pub mod Names
-- what an accepted sheet is, and what is collected of it
pub mod Sheet
-- definitions over rows, and tables that hold them
pub mod Rows
-- the full report: what is in it, how much, and the book beside it
pub mod Report
-- rule 3, the tier rule, and the call
pub mod Rule3
-- reasons to be Unpin: their rule, and the call
pub mod Unpin
