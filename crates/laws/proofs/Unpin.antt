-- Reasons to be Unpin: what three passes leave, the rule in the sheet's own words, and the call.
pub mod LastFinds
pub mod ReasonNumbers
pub mod Rule
pub mod Due
