pub mod KindTests
pub mod Reports
pub mod UnsizedTable
