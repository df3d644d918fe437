-- Lemmas on rows of sums, on places and on histories.
pub mod Names
pub mod FallsListed
pub mod Histories
pub mod MappedKeys
pub mod Placing
pub mod Sums
