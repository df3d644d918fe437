pub mod Contents
pub mod Stored
pub mod Records
pub mod Chains
pub mod Slots
pub mod Refusals
