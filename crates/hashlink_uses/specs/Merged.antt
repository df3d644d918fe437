-- Settings that other settings override.
use Rattle.std.specs.Prelude.{Bool, List, fold}
use Rattle.hashlink.specs.Entries.{place_or_end, put}

module _ {K V : Type 0} (eq : K → K → Bool) where
  -- the entries after a replace: a present key keeps its place, and a new one is added last
  abbrev pub with_setting : List (K × V) → K × V → List (K × V)
  with_setting es e = put eq es e.0 e.1 (place_or_end eq es e.0)

  -- the entries after a replace of each pair in order
  abbrev pub merged : List (K × V) → List (K × V) → List (K × V)
  merged es pairs = fold with_setting es pairs
