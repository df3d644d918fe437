-- The state in which a cache ends, after the loan of a part of it has ended.
use Rattle.std.specs.Prelude.{◌≡◌, ℕ, Bool, Option, OnSome, Result, Err, IfErr, length, ⊤}
use Rattle.std.specs.Borrow.{Fml, GName, RattleType, MutBor, Lends, LendsSo, LendsSoOk, follows, follows_so}
use mathlib.Core.Option.{none}
use Rattle.std.specs.declared.hash.Hasher as hasher
use Rattle.std.specs.declared.hash.BuildHasher as builder
use Rattle.hashlink_model.specs.Cache.{CacheGetsMatch, CacheGetsMatchAndWrites, CacheInserts}
use Rattle.hashlink_model.specs.{Entries.moved_match, Steps.with_match_value}
use Rattle.hashlink_core.specs.{Keyed.Keyed, KeyedLends.HashMembers}
use Rattle.hashlink_map.specs.{Lends.map_row, declared.try_insert_error.TryInsertError.TryInsertError}
use Rattle.hashlink_lru.specs.Cached.{FailsToUse, FitsAndWritesLast, SameCapacity, StaysWithin}
use Rattle.hashlink_lru.specs.{contracts.cache.LruCache.the_row, declared.cache.LruCache.LruCache}
use Rattle.hashlink_lru.specs.Cached.{StaysWithinOne, UsesAndWrites, entries_of, state_of, with_map}

module _ (K V S T : RattleType) (g : HashMembers K.Denot) (b : builder.Ghosts S.Denot T.Denot)
    (w : hasher.Ghosts T.Denot) where
  abbrev pub cache_row : RattleType
  cache_row = the_row K V S T (record { eq = g.eq }) (record { hash_input = g.hash_input }) b w

  module _ (c : MutBor (LruCache K.Denot V.Denot S.Denot T.Denot)) where
    -- the cache ends with the state in which the map of this name ends
    abbrev pub HandsOnMap : GName → Fml
    HandsOnMap name = follows cache_row (map_row K V S T g b w) c.ghost_name name (with_map c.now)

    -- the map is lent: the cache ends with the map as the borrower left it
    abbrev pub LendsMap : MutBor (Keyed K.Denot V.Denot S.Denot) → Fml
    LendsMap m = Lends cache_row (map_row K V S T g b w) c m (with_map c.now)

    -- the last value is lent, and the cache ends with the value that was written there. If there are not n
    -- entries, entries were evicted before as by an insert, but at least one stayed
    abbrev pub LendsLast : ℕ → Option (MutBor V.Denot) → Fml
    LendsLast n r =
        LendsSo cache_row V c r
        (λ new v. OnSome r (FitsAndWritesLast n (state_of c.now) (state_of new) v)) (λ _. ⊤)

    -- the value of a key that is used or inserted is lent. The cache ends with the value that was written
    -- there, or as a refused insert leaves it. It has no more entries beyond the capacity than before, except
    -- that one stays at capacity 0
    abbrev pub LendsUsedOrNew : K.Denot → Result (MutBor V.Denot) (K.Denot × V.Denot) → Fml
    LendsUsedOrNew k r =
        LendsSoOk cache_row V c r (λ new v. UsesAndWrites g.eq (state_of c.now) (state_of new) k v
        × StaysWithinOne (state_of c.now) (state_of new))
        (λ new. IfErr r (λ pair. CacheInserts g.eq (state_of c.now) (state_of new) k pair.1 (Err pair)))

    -- the same if the value may fail to be made
    abbrev pub LendsUsedOrTryNew : {E : Type 0} → K.Denot
        → Result (MutBor V.Denot) (TryInsertError K.Denot V.Denot E)
        → Fml
    LendsUsedOrTryNew k r =
        LendsSoOk cache_row V c r (λ new v. UsesAndWrites g.eq (state_of c.now) (state_of new) k v
        × StaysWithinOne (state_of c.now) (state_of new))
        (λ new. IfErr r (FailsToUse g.eq (state_of c.now) (state_of new) k))

    module _ (test : K.Denot → Bool) where
      -- the value of the first key that passes is lent at its place. The cache ends with the value that was
      -- written there, or unchanged if no key passes. The capacity stays, and no more entries are beyond it
      -- than before
      abbrev pub LendsValueIn : Option (MutBor V.Denot) → Fml
      LendsValueIn r =
          LendsSo cache_row V c r (λ new v. SameCapacity c.now new
          × (state_of new ≡ record (state_of c.now) { map = with_match_value test (state_of c.now).map v })
          × StaysWithin (state_of c.now) (state_of new)) (λ new. state_of new ≡ state_of c.now)

      -- the entry moved to the back, and its value is lent. The cache ends with the value that was written
      -- there, or unchanged if no key passes. No more entries are beyond the capacity than before
      abbrev pub LendsUsed : Option (MutBor V.Denot) → Fml
      LendsUsed r =
          LendsSo cache_row V c r (λ new v. SameCapacity c.now new
          × CacheGetsMatchAndWrites test (state_of c.now) (state_of new) v
          × StaysWithin (state_of c.now) (state_of new)) (λ new. state_of new ≡ state_of c.now)

      -- the entry, if one passes, moved to the back with its value, and no more entries are beyond the
      -- capacity than before
      abbrev pub EndsUsed : Option V.Denot → Fml
      EndsUsed r =
          follows_so cache_row cache_row c.ghost_name none (λ _ _. ⊤)
          (λ new. CacheGetsMatch test (state_of c.now) (state_of new) r
          × StaysWithin (state_of c.now) (state_of new)
          × (entries_of new ≡ moved_match test (entries_of c.now) (length (entries_of c.now))))
