-- Lists, tests, sums and digits.
pub mod Counts
pub mod Tests
pub mod Sums
pub mod Members
pub mod Stores
pub mod Lists
pub mod Forms
pub mod Flat
pub mod Digits
pub mod Right
pub mod Words
