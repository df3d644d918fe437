-- Lemmas on the blocks of an arena, and on the ring made by their links.
pub mod Names
pub mod ArenaBlocks
pub mod ArenaLends
pub mod ArenaSharing
pub mod ArenaSteps
pub mod Calls
pub mod Chains
pub mod Crosses
pub mod Cuts
pub mod Rings
pub mod Lending
pub mod VacantSteps
pub mod Neighbours
pub mod Opening
pub mod Paths
pub mod StateLemmas
