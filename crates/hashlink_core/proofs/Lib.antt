-- Lemmas on lists by places, on ring and table in step, on what each call leaves, and on iterators along a
-- ring.
pub mod Names
pub mod AtKey
pub mod AtKeyNode
pub mod Calls
pub mod Edits
pub mod Finding
pub mod Holding
pub mod InTurn
pub mod Keeping
pub mod Mapped
pub mod Neighbours
pub mod Places
pub mod Stepping
pub mod Steps
pub mod Walk
pub mod Windows
