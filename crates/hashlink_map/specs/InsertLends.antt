-- A map, after a `&mut` to the value of a key that was put last has ended.
use Rattle.std.specs.{Prelude.{Result, IfErr}, Borrow.{Fml, RattleType, MutBor, LendsSoOk}}
use Rattle.hashlink_map.specs.{Bounds.{HasherGhosts, BuilderGhosts}, EntryLends.PutsLast, Lends.map_row}
use Rattle.hashlink_model.specs.MapState.{RefusesEntry}
use Rattle.hashlink_core.specs.{Keyed.{Keyed, state_of}, KeyedLends.HashMembers}

module _ (K V S T : RattleType) (g : HashMembers K.Denot) (b : BuilderGhosts S.Denot T.Denot)
    (w : HasherGhosts T.Denot) where
  -- the value of a key that is put last is lent. The map ends as an insert of the written value at the end
  -- leaves it, or as a refusal of the pair does
  abbrev pub LendsPutLast : MutBor (Keyed K.Denot V.Denot S.Denot) → K.Denot
      → Result (MutBor V.Denot) (K.Denot × V.Denot)
      → Fml
  LendsPutLast m k r =
      LendsSoOk (map_row K V S T g b w) V m r
      (λ new v. PutsLast g.eq (state_of m.now) (state_of new) k v)
      (λ new. IfErr r (λ pair. RefusesEntry g.eq (state_of m.now) (state_of new) k pair.1 pair))
