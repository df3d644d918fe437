-- The effect of lists of commands on a map and on caches.
pub mod CallReplies
pub mod Reads
pub mod Keeps
pub mod EntrySteps
pub mod CursorSteps
pub mod Step
pub mod Chain
pub mod Run
pub mod CacheCalls
pub mod CacheLaws
pub mod CacheStep
pub mod CacheRun
pub mod WeightedStep
