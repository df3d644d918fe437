-- What a ring gets of a chain.
use Rattle.std.specs.Prelude.{◌≡◌, ◌+◌, length}
use Rattle.hashlink_nodes.specs.Ring.{Ring}

-- one more node is free, and one link was stored
pub record Spares {K V : Type 0} (old new : Ring K V) : Type 0 where
  pub entries : new.entries ≡ old.entries
  pub free : length new.free ≡ length old.free + 1
  pub link_writes : new.link_writes ≡ old.link_writes + 1
