-- Bounds of an accepted sheet. Total: the full report has fewer records than the sheet has bytes, so fewer than 32,768 (`total-fits`, `total-few`).
-- Reasons: at most 17,344 for a name (`reasons-few`), and each count is that of the list of reasons (`reasons-are`). Walk: the visits in the words of the sheet
-- (`visits-are`), at most 16,575 (`visits-few`). Rows, Items: the records of one body against its bytes. Lengths: of the lists that the definitions make.
-- Assumes nothing.
pub mod Lengths
pub mod Rows
pub mod Items
pub mod Walk
pub mod Total
pub mod Reasons
