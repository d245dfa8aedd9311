-- Rule 3, the tier rule, and the call.
pub mod Tied
pub mod PlainFields
pub mod Order
pub mod Cyclic
pub mod Improper
pub mod Outcomes
pub mod Due
