-- The definitions that every contract of the containers uses: lists of entries, and the steps of a map.
pub mod Algebra
pub mod Cache
pub mod Compare
pub mod Cursor
pub mod Entries
pub mod Entry
pub mod Labels
pub mod Lookups
pub mod Many
pub mod MapState
pub mod Numbers
pub mod Retain
pub mod RetainRows
pub mod Sets
pub mod Steps
pub mod Walk
pub mod Weights
