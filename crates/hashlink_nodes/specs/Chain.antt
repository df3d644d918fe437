-- The entries of a chain, as contracts see them, and what holds of every chain.
use Rattle.std.specs.Prelude.{List}
use Rattle.hashlink_nodes.specs.{Pool.state_of, declared.chain.Chain.TheInside.Inside}
use Rattle.hashlink_nodes.specs.Parting.{IsWhole, pairs_from}

module _ {K V : Type 0} where
  abbrev pub pairs_of : Inside K V → List (K × V)
  pairs_of c = pairs_from (state_of c.pool) c.first c.len

  abbrev pub IsSoundChain : Inside K V → Type 0
  IsSoundChain c = IsWhole (state_of c.pool) c.first c.last c.len
