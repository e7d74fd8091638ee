-- The definitions, in the order in which they build on one another. Assumes nothing.
pub mod Bytes
pub mod Lists
pub mod Book
pub mod Layout
pub mod Questions
pub mod Sound
pub mod Value
pub mod Reading
pub mod Room
