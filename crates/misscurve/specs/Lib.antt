-- What the contracts of the program use.
pub mod Trace
