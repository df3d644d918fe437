-- A map or an entry, after a `&mut` to a value that was lent through an entry has ended.
use Rattle.std.specs.{Prelude.{[], length, Bool, Result, Ok, IfErr}, Map.lookup}
use Rattle.std.specs.Borrow.{Fml, RattleType, MutBor, Lends, LendsSoOk}
use mir.Syntax.{named}
use Rattle.hashlink_map.specs.Bounds.{EqGhosts, HashGhosts, HasherGhosts, BuilderGhosts, NodeGhosts}
use Rattle.hashlink_map.specs.contracts.map.LinkedHashMap.{the_row}
use Rattle.hashlink_model.specs.MapState.{MapState, Inserts, AddsEntry, RefusesEntry}
use Rattle.hashlink_core.specs.{Keyed.{state_of, entries_of}, Places.Node}
use Rattle.hashlink_core.specs.KeyedLends.{node_row, with_value_at}
use Rattle.hashlink_map.specs.contracts.entry.occupied.OccupiedEntry as occupied
use Rattle.hashlink_map.specs.declared.entry.{Entry.Entry, occupied.OccupiedEntry.OccupiedEntry}
use Rattle.hashlink_map.specs.{declared.entry.vacant.VacantEntry.VacantEntry, TryInsert.FailsToInsert}
use Rattle.hashlink_map.specs.declared.try_insert_error.TryInsertError.{TryInsertError}
use Rattle.hashlink_map.specs.Entry.{occupied_with, entry_map, entry_state}

-- the step of an insert at the end: a present key moved there, and an absent one was added there
abbrev pub PutsLast : {K V S : Type 0} → (K → K → Bool) → MapState K V S → MapState K V S → K → V → Type 0
PutsLast eq old new k v = Inserts eq old new k v (length old.entries) (Ok (lookup (eq k) old.entries))

module _ (K V S T : RattleType) {g : EqGhosts K.Denot} {h : HashGhosts K.Denot}
    {b : BuilderGhosts S.Denot T.Denot}
    {w : HasherGhosts T.Denot} where
  module _ {n : NodeGhosts Node} where
    -- the entry ends with the written value. Its lifetime is the second of the signature
    abbrev pub LendsFromOccupied : MutBor (OccupiedEntry K.Denot V.Denot S.Denot Node T.Denot g h b w n)
        → MutBor V.Denot
        → Fml
    LendsFromOccupied o r =
        Lends (occupied.the_row (record { mir = named 1; lft = [] }) K V S node_row T g h b w n) V o r
        (occupied_with o.now)

  module _ {N : Type 0} {n : NodeGhosts N} where
    -- the map ends with the written value at the entry's place
    abbrev pub LendsForGood : OccupiedEntry K.Denot V.Denot S.Denot N T.Denot g h b w n → MutBor V.Denot → Fml
    LendsForGood o r = Lends (the_row K V S T g h b w) V o.map r (with_value_at o.map.now (n.node o.node))

    -- the map ends as an insert of the written value at the end leaves it
    abbrev pub LendsLast : {E : Type 0} → OccupiedEntry K.Denot V.Denot S.Denot N T.Denot g h b w n
        → Result (MutBor V.Denot) E
        → Fml
    LendsLast o r =
        LendsSoOk (the_row K V S T g h b w) V o.map r
        (λ new u. PutsLast g.eq (state_of o.map.now) (state_of new) o.key u) (λ _. ⊥)

  -- the map ends with the given key and the written value put last, or as a refusal leaves it
  abbrev pub LendsNew : VacantEntry K.Denot V.Denot S.Denot T.Denot g h b w → V.Denot
      → Result (MutBor V.Denot) (K.Denot × V.Denot)
      → Fml
  LendsNew e v r =
      LendsSoOk (the_row K V S T g h b w) V e.map r
      (λ new u. AddsEntry g.eq (state_of e.map.now) (state_of new) e.key u (length (entries_of e.map.now)))
      (λ new. IfErr r (RefusesEntry g.eq (state_of e.map.now) (state_of new) e.key v))

  -- the same if the value was made; else the map ends as it was
  abbrev pub LendsTryNew : {E : Type 0} → VacantEntry K.Denot V.Denot S.Denot T.Denot g h b w
      → Result (MutBor V.Denot) (TryInsertError K.Denot V.Denot E)
      → Fml
  LendsTryNew e r =
      LendsSoOk (the_row K V S T g h b w) V e.map r
      (λ new u. AddsEntry g.eq (state_of e.map.now) (state_of new) e.key u (length (entries_of e.map.now)))
      (λ new. IfErr r (FailsToInsert g.eq (state_of e.map.now) (state_of new) e.key))

  -- the map ends as an insert of the written value at the end leaves it, or as a refusal of the new pair does
  abbrev pub LendsOrNew : Entry K.Denot V.Denot S.Denot T.Denot g h b w
      → Result (MutBor V.Denot) (K.Denot × V.Denot)
      → Fml
  LendsOrNew e r =
      LendsSoOk (the_row K V S T g h b w) V (entry_map e) r
      (λ new u. PutsLast g.eq (entry_state e).map (state_of new) (entry_state e).key u)
      (λ new. IfErr r (λ pair. RefusesEntry g.eq (entry_state e).map (state_of new)
      (entry_state e).key pair.1 pair))

  -- the same if making the value may fail
  abbrev pub LendsOrTryNew : {E : Type 0} → Entry K.Denot V.Denot S.Denot T.Denot g h b w
      → Result (MutBor V.Denot) (TryInsertError K.Denot V.Denot E)
      → Fml
  LendsOrTryNew e r =
      LendsSoOk (the_row K V S T g h b w) V (entry_map e) r
      (λ new u. PutsLast g.eq (entry_state e).map (state_of new) (entry_state e).key u)
      (λ new. IfErr r (FailsToInsert g.eq (entry_state e).map (state_of new) (entry_state e).key))
