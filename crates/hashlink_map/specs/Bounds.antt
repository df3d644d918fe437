-- The names that clauses use for each bound on a parameter of the map.
pub use Rattle.std.specs.declared.{cmp.PartialEq.{Ghosts as EqGhosts}, hash.Hasher.{Ghosts as HasherGhosts}}
pub use Rattle.std.specs.declared.hash.{Hash.{Ghosts as HashGhosts}, BuildHasher.{Ghosts as BuilderGhosts}}
pub use Rattle.hashlink_map.specs.declared.as_node.AsNode.{Ghosts as NodeGhosts}
pub use Rattle.hashlink_map.specs.declared.drain.AsChain.{Ghosts as ChainGhosts}
pub use Rattle.hashlink_map.specs.declared.drain.Drainable.{Ghosts as DrainableGhosts}
