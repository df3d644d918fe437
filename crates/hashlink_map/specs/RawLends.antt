-- A map or a raw entry, after a loan through a raw entry has ended.
use Rattle.std.specs.Prelude.{◌≡◌, ◌-◌, Bool, [], Option, Some, MatchOption, length, slice_get, Result, Ok}
use Rattle.std.specs.Borrow.{Fml, ftrue, RattleType, Bor, MutBor, Lends, RestsIfNone, RestsIfErr, follows_so}
use Rattle.std.specs.{Prelude.{Err, IfOk, IfErr, ⊤}, Borrow.name_if_ok}
use mathlib.Core.Option.{none}
use mir.Syntax.{named}
use Rattle.hashlink_map.specs.Bounds.{EqGhosts, HashGhosts, HasherGhosts, BuilderGhosts, NodeGhosts}
use Rattle.hashlink_map.specs.contracts.map.LinkedHashMap.{the_row}
use Rattle.hashlink_model.specs.{Entries.place_of, MapState.{AddsEntry, RefusesEntry, MovesAt}}
use Rattle.hashlink_model.specs.Entry.{RawEntryState}
use Rattle.hashlink_core.specs.{Keyed.{Keyed, state_of, entries_of}, Places.Node}
use Rattle.hashlink_core.specs.KeyedLends.{HashMembers, node_row, with_value_at}
use Rattle.hashlink_map.specs.contracts.raw_entry.occupied.RawOccupiedEntryMut as occupied
use Rattle.hashlink_map.specs.{declared.raw_entry.RawEntryMut.RawEntryMut, EntryLends.PutsLast, Lends.map_row}
use Rattle.hashlink_map.specs.declared.raw_entry.occupied.RawOccupiedEntryMut.{RawOccupiedEntryMut}
use Rattle.hashlink_map.specs.RawEntry.{raw_occupied_map, raw_with, raw_map, raw_state}

-- the entry found is that of a given pair that was put last, or that of a pair that moved from its place to
-- the end
abbrev pub StandsLast : {K V S : Type 0} → (K → K → Bool) → RawEntryState K V S → (K × V → Type 0)
    → RawEntryState K V S
    → Type 0
StandsLast eq old Given new =
    let es = old.map.entries in
    MatchOption old.place
    ((e : _) × Given e × AddsEntry eq old.map new.map e.0 e.1 (length es) × (new.place ≡ Some (length es)))
    (λ j. (e : _) × (slice_get es j ≡ Some e) × (place_of (eq e.0) es ≡ Some j)
    × MovesAt old.map new.map j (length es)
    × (new.place ≡ Some (length es - 1)))

module _ (K V S T : RattleType) {g : EqGhosts K.Denot} {h : HashGhosts K.Denot}
    {b : BuilderGhosts S.Denot T.Denot}
    {w : HasherGhosts T.Denot} where
  module _ {n : NodeGhosts Node} where
    -- the entry ends with the written value. Its lifetime is the second of the signature
    abbrev pub LendsFromRaw : MutBor (RawOccupiedEntryMut K.Denot V.Denot S.Denot Node T.Denot g h b w n)
        → MutBor V.Denot
        → Fml
    LendsFromRaw o r =
        Lends (occupied.the_row (record { mir = named 1; lft = [] }) K V S node_row T g h b w n) V o r
        (raw_with o.now)

    -- the map ends as the entry leaves it, or as it was if there is no entry
    abbrev pub HandsOnOccupied : MutBor (Keyed K.Denot V.Denot S.Denot)
        → Option (RawOccupiedEntryMut K.Denot V.Denot S.Denot Node T.Denot g h b w n)
        → Fml
    HandsOnOccupied m r =
        RestsIfNone (the_row K V S T g h b w) m (λ o. (raw_occupied_map o).ghost_name) r (λ new. new ≡ m.now)

    -- the map ends as the new entry leaves it, or as a refusal does
    abbrev pub HandsOnNew : MutBor (Keyed K.Denot V.Denot S.Denot) → K.Denot → V.Denot
        → Result (RawOccupiedEntryMut K.Denot V.Denot S.Denot Node T.Denot g h b w n) (K.Denot × V.Denot)
        → Fml
    HandsOnNew m k v r =
        RestsIfErr (the_row K V S T g h b w) m (λ o. (raw_occupied_map o).ghost_name) r
        (λ new. IfErr r (RefusesEntry g.eq (state_of m.now) (state_of new) k v))

    -- the same if the entry is that of a pair that was put last or moved there
    abbrev pub HandsOnLast : RawEntryMut K.Denot V.Denot S.Denot T.Denot g h b w
        → Result (RawOccupiedEntryMut K.Denot V.Denot S.Denot Node T.Denot g h b w n) (K.Denot × V.Denot)
        → Fml
    HandsOnLast e r =
        RestsIfErr (the_row K V S T g h b w) (raw_map e) (λ o. (raw_occupied_map o).ghost_name) r
        (λ new. IfErr r (λ pair. RefusesEntry g.eq (raw_state e).map (state_of new) pair.0 pair.1 pair))

  -- the map ends as an insert of the lent key and the written value at the end leaves it, or as a refusal
  -- does
  abbrev pub LendsLastPair : RawEntryMut K.Denot V.Denot S.Denot T.Denot g h b w
      → Result (Bor K.Denot × MutBor V.Denot) (K.Denot × V.Denot)
      → Fml
  LendsLastPair e r =
      follows_so (the_row K V S T g h b w) V (raw_map e).ghost_name (name_if_ok (λ p. p.1.ghost_name) r)
      (λ u new. IfOk r (λ p. PutsLast g.eq (raw_state e).map (state_of new) p.0.now u))
      (λ new. IfErr r (λ pair. RefusesEntry g.eq (raw_state e).map (state_of new) pair.0 pair.1 pair))

  module _ {N : Type 0} {n : NodeGhosts N} where
    -- the map ends with the written value at the entry's place
    abbrev pub RawLendsForGood : RawOccupiedEntryMut K.Denot V.Denot S.Denot N T.Denot g h b w n
        → MutBor V.Denot
        → Fml
    RawLendsForGood o r = Lends (the_row K V S T g h b w) V o.map r (with_value_at o.map.now (n.node o.node))

    -- the map ends as it was
    abbrev pub RawRestsForGood : RawOccupiedEntryMut K.Denot V.Denot S.Denot N T.Denot g h b w n → Fml
    RawRestsForGood o =
        follows_so (the_row K V S T g h b w) (the_row K V S T g h b w) o.map.ghost_name none (λ _ _. ⊤)
        (λ new. new ≡ o.map.now)

    -- if there is an entry, the map ends with the written value at its place
    abbrev pub LendsPairOf : {E : Type 0}
        → Result (RawOccupiedEntryMut K.Denot V.Denot S.Denot N T.Denot g h b w n) E
        → Result (Bor K.Denot × MutBor V.Denot) E
        → Fml
    LendsPairOf (Ok o) (Ok p) = RawLendsForGood o p.1
    LendsPairOf (Ok o) (Err e) = ftrue
    LendsPairOf (Err e) r = ftrue

module _ (K V S T : RattleType) (g : HashMembers K.Denot) (b : BuilderGhosts S.Denot T.Denot)
    (w : HasherGhosts T.Denot) where
  -- the map ends with the key and the written value put last, or as a refusal leaves it
  abbrev pub LendsNewPair : MutBor (Keyed K.Denot V.Denot S.Denot) → K.Denot → V.Denot
      → Result (Bor K.Denot × MutBor V.Denot) (K.Denot × V.Denot)
      → Fml
  LendsNewPair m k v r =
      follows_so (map_row K V S T g b w) V m.ghost_name (name_if_ok (λ p. p.1.ghost_name) r)
      (λ u new. IfOk r (λ _. AddsEntry g.eq (state_of m.now) (state_of new) k u (length (entries_of m.now))))
      (λ new. IfErr r (RefusesEntry g.eq (state_of m.now) (state_of new) k v))
