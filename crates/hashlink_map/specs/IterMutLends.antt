-- An iterator, after a `&mut` to a value that it lent has ended.
use Rattle.std.specs.Prelude.{◌≡◌, ℕ, ◌-◌, [], Option, None, Some, OnSome, IfNone, MatchOption, slice_get}
use Rattle.std.specs.Borrow.{Fml, RattleType, Bor, MutBor, Lends, LendsSo, follows_so, name_if_some}
use Rattle.std.specs.Option.{option_map, option_copied_mut}
use mir.Syntax.{named}
use Rattle.hashlink_map.specs.Bounds.{EqGhosts, HashGhosts, HasherGhosts, BuilderGhosts, NodeGhosts}
use Rattle.hashlink_core.specs.{Keyed.{Keyed, entries_of}, Places.{Node, place_number}}
use Rattle.hashlink_core.specs.KeyedLends.{node_row, with_value_at}
use Rattle.hashlink_map.specs.contracts.iter_mut.IterMut as walk
use Rattle.hashlink_map.specs.contracts.iter_mut.OfEntries as of_entries
use Rattle.hashlink_map.specs.contracts.iter_mut.OfValues as of_values
use Rattle.hashlink_map.specs.WritingWalk.{WritingWalk, TakesPlace, walk_with, after_front, after_back}
use Rattle.hashlink_map.specs.declared.iter_mut.{IterMut.IterMut, OfEntries.OfEntries}
use Rattle.hashlink_map.specs.{IterMut.{walk_map, walk_state}, Cursor.lent_pair}
use Rattle.hashlink_map.specs.{WritingWalk.last_place, Standing.still_standing}

-- a walk of any type, by the map that it borrows and its state
module _ {W K V S : Type 0} (map : W → MutBor (Keyed K V S)) (state : W → WritingWalk K V S) where
  -- the same walk, after a step and with v written at the place j
  abbrev pub StepsAndWrites : W → W → WritingWalk K V S → ℕ → V → Type 0
  StepsAndWrites old new stepped j v =
      ((map new).ghost_name ≡ (map old).ghost_name) × (state new ≡ walk_with stepped j v)

  -- one entry fewer is left; and if r lent a value, the walk is `stepped`, with v written at the place j
  abbrev pub StepsBy : {A : Type 0} → Option A → W → W → WritingWalk K V S → ℕ → V → Type 0
  StepsBy r old new stepped j v =
      OnSome r (StepsAndWrites old new stepped j v) × ((state new).left ≡ (state old).left - 1)

  -- the walk is the same and as it was
  abbrev pub StaysThere : W → W → Type 0
  StaysThere old new =
      ((map new).ghost_name ≡ (map old).ghost_name) × ((map new).now ≡ (map old).now)
      × (state new ≡ state old)

  -- a place was taken off: the walk itself is returned, which is now `stepped`, and the place, which is j
  pub record TakesOff (old : MutBor W) (j : ℕ) (stepped : WritingWalk K V S) (new : MutBor W)
      (taken : Option Node) : Type 0 where
    pub same_walk : new.ghost_name ≡ old.ghost_name
    pub same_map : (map new.now).ghost_name ≡ (map old.now).ghost_name
    pub unchanged : (map new.now).now ≡ (map old.now).now
    pub takes : TakesPlace (map old.now).now (state old.now) (state new.now) j stepped taken

-- the pair of the place is lent, or none if no place was taken
abbrev pub LentFrom : {K V S : Type 0} → Keyed K V S → Option Node → Option (Bor K × MutBor V) → Type 0
LentFrom {K} {V} m taken r =
    MatchOption taken (r ≡ None)
    (λ n. (p : Bor K × MutBor V) × (r ≡ Some p)
    × (slice_get (entries_of m) (place_number m.nodes (Some n)) ≡ Some (lent_pair p)))

-- the value of the entry is lent, or none if there is no entry
abbrev pub LentValue : {K V : Type 0} → Option (K × V) → Option (MutBor V) → Type 0
LentValue e r = option_copied_mut r ≡ option_map (λ e. e.1) e

module _ {K V S T : Type 0} {g : EqGhosts K} {h : HashGhosts K} {b : BuilderGhosts S T}
    {w : HasherGhosts T}
    {N L : Type 0} {n : NodeGhosts N} where
  -- the walk with v as the value of the node
  abbrev pub walk_with_value : IterMut K V S N L T g h b w n → Node → V → IterMut K V S N L T g h b w n
  walk_with_value i at v =
      let ns = i.map.now.nodes in
      record i {
        map = record i.map { now = with_value_at i.map.now at v };
        stands = still_standing v ns (place_number ns (Some at)) i.stands;
      }

-- the rows of the marks
abbrev pub entries_row : RattleType
entries_row = of_entries.the_row

abbrev pub values_row : RattleType
values_row = of_values.the_row

module _ (K V S L T : RattleType) {g : EqGhosts K.Denot} {h : HashGhosts K.Denot}
    {b : BuilderGhosts S.Denot T.Denot}
    {w : HasherGhosts T.Denot} {n : NodeGhosts Node} where
  -- the walk ends as `stepped`, with the written value at the place j; if none was left, it ends as it was.
  -- Its lifetime is the second of the signature
  abbrev pub LendsFromWalk : MutBor (IterMut K.Denot V.Denot S.Denot Node L.Denot T.Denot g h b w n)
      → WritingWalk K.Denot V.Denot S.Denot → ℕ → Option (MutBor V.Denot)
      → Fml
  LendsFromWalk i stepped j r =
      LendsSo (walk.the_row (record { mir = named 1; lft = [] }) K V S node_row L T g h b w n) V i r
      (λ new v. StepsBy walk_map walk_state r i.now new stepped j v)
      (λ new. IfNone r (StaysThere walk_map walk_state i.now new))

  -- the first place left is taken off, and its value lent; then the same for the last place
  abbrev pub LendsFirst : MutBor (IterMut K.Denot V.Denot S.Denot Node L.Denot T.Denot g h b w n)
      → Option (MutBor V.Denot)
      → Fml
  LendsFirst i r = LendsFromWalk i (after_front (walk_state i.now)) (walk_state i.now).at r

  abbrev pub LendsLast : MutBor (IterMut K.Denot V.Denot S.Denot Node L.Denot T.Denot g h b w n)
      → Option (MutBor V.Denot)
      → Fml
  LendsLast i r = LendsFromWalk i (after_back (walk_state i.now)) (last_place (walk_state i.now)) r

-- an iterator that lends each value with its key
module _ (K V S T : RattleType) {g : EqGhosts K.Denot} {h : HashGhosts K.Denot}
    {b : BuilderGhosts S.Denot T.Denot}
    {w : HasherGhosts T.Denot} {n : NodeGhosts Node} where
  -- the walk ends with the written value at the node
  abbrev pub LendsAtWalkNode : MutBor (IterMut K.Denot V.Denot S.Denot Node OfEntries T.Denot g h b w n)
      → Node → MutBor V.Denot
      → Fml
  LendsAtWalkNode i at r =
      Lends (walk.the_row (record { mir = named 1; lft = [] }) K V S node_row entries_row T g h b w n) V i r
      (walk_with_value i.now at)

  -- the walk ends with the written value at the place j if a pair of it is lent, and else as it was
  abbrev pub LendsPairThere : MutBor (IterMut K.Denot V.Denot S.Denot Node OfEntries T.Denot g h b w n)
      → ℕ → Option (Bor K.Denot × MutBor V.Denot)
      → Fml
  LendsPairThere i j r =
      follows_so (walk.the_row (record { mir = named 1; lft = [] }) K V S node_row entries_row T g h b w n) V
      i.ghost_name (name_if_some (λ p. p.1.ghost_name) r)
      (λ v new. OnSome r (StepsAndWrites walk_map walk_state i.now new (walk_state i.now) j v))
      (λ new. StaysThere walk_map walk_state i.now new)

  -- `LendsFromWalk` for a value that is lent together with its key
  abbrev pub LendsPairFromWalk : MutBor (IterMut K.Denot V.Denot S.Denot Node OfEntries T.Denot g h b w n)
      → WritingWalk K.Denot V.Denot S.Denot → ℕ → Option (Bor K.Denot × MutBor V.Denot)
      → Fml
  LendsPairFromWalk i stepped j r =
      follows_so (walk.the_row (record { mir = named 1; lft = [] }) K V S node_row entries_row T g h b w n) V
      i.ghost_name (name_if_some (λ p. p.1.ghost_name) r)
      (λ v new. OnSome r (StepsAndWrites walk_map walk_state i.now new stepped j v))
      (λ new. IfNone r (StaysThere walk_map walk_state i.now new))
