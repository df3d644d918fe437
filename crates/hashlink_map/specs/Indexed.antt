-- A map, after a `&mut` to the value of a present key has ended.
use Rattle.std.specs.{Prelude.{Bool, IsSome}, Borrow.{Fml, RattleType, MutBor, Lends}, Map.lookup}
use Rattle.hashlink_map.specs.{Bounds.{HasherGhosts, BuilderGhosts}, Lends.map_row}
use Rattle.hashlink_model.specs.Entries.{place_or_end}
use Rattle.hashlink_core.specs.{Keyed.{Keyed, entries_of, pair_with_value}, KeyedLends.HashMembers}
use Rattle.hashlink_core.specs.Places.{renewed_at}

module _ {K V S : Type 0} (eq : K → K → Bool) where
  -- the key is present
  abbrev pub HasKey : Keyed K V S → K → Type 0
  HasKey m k = IsSome (lookup (eq k) (entries_of m))

  -- the map with w as the value of a present key
  abbrev pub with_value_at_key : Keyed K V S → K → V → Keyed K V S
  with_value_at_key m k w =
      record m { nodes = renewed_at (pair_with_value w) m.nodes (place_or_end eq (entries_of m) k) }

-- the value of a present key is lent: the map ends with the written value there
abbrev pub LendsIndexed : (K V S T : RattleType) (g : HashMembers K.Denot) → BuilderGhosts S.Denot T.Denot
    → HasherGhosts T.Denot → MutBor (Keyed K.Denot V.Denot S.Denot) → K.Denot → MutBor V.Denot → Fml
LendsIndexed K V S T g b w m k r = Lends (map_row K V S T g b w) V m r (with_value_at_key g.eq m.now k)
