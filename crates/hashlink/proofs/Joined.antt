-- Entries in two lists that share no key, such as those of two caches.
pub use Rattle.hashlink_map.proofs.Joined.{apart-from_distinct, apart-written, apart-inserted, lookup-stored}
pub use Rattle.hashlink_map.proofs.Joined.{Exchanged, exchanged}
pub use Rattle.hashlink_lru.proofs.JoinedCaches.{cache_put-in_place, two_lists, apart-pushed, pushed-parts}
