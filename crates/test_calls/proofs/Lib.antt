-- How many of the numbers in a table agree with a hash, and that the nodes determine their hashes.
pub mod Agreeing
pub mod Numbered
pub mod Telling
