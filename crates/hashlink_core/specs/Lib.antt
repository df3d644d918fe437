-- The definitions that the contracts of the keyed list use.
pub mod Drained
pub mod Hashing
pub mod Keyed
pub mod KeyedLends
pub mod Places
pub mod Refusals
pub mod Steps
pub mod Telling
pub mod Tied
pub mod Walk
