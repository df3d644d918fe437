-- The definitions that the contracts of the ring of nodes use.
pub mod Node
pub mod Kept
pub mod Blocks
pub mod Ownership
pub mod ArenaLends
pub mod State
pub mod Pool
pub mod Ring
pub mod Shape
pub mod Parting
pub mod Chain
pub mod ChainSteps
pub mod PoolLends
pub mod NodesLends
