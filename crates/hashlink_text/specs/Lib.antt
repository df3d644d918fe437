-- The answers to a text of commands.
pub mod Lines
pub mod Cuts
pub mod Tables
pub mod Spelling
pub mod Reading
pub mod Named
pub mod Transcript
pub mod CacheTranscript
pub mod WeightedTranscript
pub mod Text
pub mod Faults
