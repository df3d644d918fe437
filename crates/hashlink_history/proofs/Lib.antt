-- Lemmas on caches over traces.
pub mod Recency
pub mod Reuse
pub mod Ends
pub mod Peaks
pub mod Potential
pub mod Pursuit
pub mod Pursued
pub mod Competitive
pub mod CacheRuns
