-- The lemmas for callers are in CallerLemmas and Joined; the files after them are passed on.
pub mod CallerLemmas
pub mod Joined
pub use Rattle.hashlink_model.proofs.Extends
pub use Rattle.hashlink_model.proofs.Filtered
pub use Rattle.hashlink_model.proofs.InTurn
pub use Rattle.hashlink_map.proofs.AtKey
pub use Rattle.hashlink_map.proofs.AtNode
pub use Rattle.hashlink_map.proofs.Counting
pub use Rattle.hashlink_map.proofs.Found
pub use Rattle.hashlink_map.proofs.Indexing
pub use Rattle.hashlink_map.proofs.InTurn as MapInTurn
pub use Rattle.hashlink_map.proofs.LookUps
pub use Rattle.hashlink_map.proofs.Modified
pub use Rattle.hashlink_map.proofs.Taken
pub use Rattle.hashlink_map.proofs.Taking
pub use Rattle.hashlink_map.proofs.Walking
pub use Rattle.hashlink_lru.proofs.Ends
pub use Rattle.hashlink_lru.proofs.Extending
