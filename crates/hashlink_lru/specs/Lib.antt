-- What the contracts of the cache use, besides `hashlink_model`.
pub mod Cached
pub mod Compared
pub mod Evicted
pub mod Lends
