-- The theory of caches over traces, and of the nodes that a run needs.
pub mod History
pub mod Peak
pub mod CacheRuns
pub mod Inclusion
pub mod Numbers
