-- What the contracts of the cache with a budget use, besides `hashlink_model`.
pub mod Answers
pub mod Evicted
pub mod Lends
pub mod Weighed
