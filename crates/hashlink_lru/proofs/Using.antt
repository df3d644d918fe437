-- A use of a key that may be absent, and a write through the value that it lends, which is the last one.
use Rattle.std.specs.Prelude.{◌≡◌, ℕ, ◌+◌, ◌-◌, ◌<◌, ◌≤◌, max, Bool, List, [], ◌∷◌, ◌++◌, length, take, drop}
use Rattle.std.specs.{Prelude.{Option, None, Some, IsSome, MatchOption, Result, Ok, IsOk}, Borrow.MutBor}
use Rattle.std.{proofs.lemmas.List.{length-append, drop-append-le}, specs.Cmp.IsEquivalence, specs.Map.lookup}
use Rattle.std.{specs.Option.{option_map, option_copied_mut, UnwrapsOrElse}, proofs.lemmas.Bool.cases_lt}
use Rattle.std.proofs.Common.{refl, ap, sym, subst, ◌∙◌, arith, ⊎_elim}
use Rattle.std.proofs.lemmas.Option.{none-some, same_Some}
use Rattle.hashlink_model.specs.Cache.{CacheState, CacheGets, CacheGetsAndWrites, last_entries}
use Rattle.hashlink_model.specs.Entries.{IsEntries, place_of, put, set_value_at, without, stored_key}
use Rattle.hashlink_model.specs.{MapState.{Changes, Inserts, MapState, with_value}, Walk.last_of}
use Rattle.hashlink_model.proofs.Afterwards.{IsEntries-moved, length-put_there, moved-there}
use Rattle.hashlink_model.proofs.ByPlace.{length-set_value_at, set_value_at-here, set_value_at-place}
use Rattle.hashlink_model.proofs.{CacheBounds.within-gets_match_and_writes, Finds.stored_key-equal}
use Rattle.hashlink_model.proofs.Caches.{last_entries-end, last_entries-within, length-last_entries}
use Rattle.hashlink_model.proofs.{CacheSteps.{gets_hit, put_entries}, Puts.{put_back, put_back_absent}}
use Rattle.hashlink_model.proofs.Places.{last_of-append, last_of-end, place_of_its_key}
use Rattle.hashlink_model.proofs.Splits.{none_from_lookup}
use Rattle.hashlink_map.{specs.EntryLends.PutsLast, proofs.AtNode.adds-rewritten-at}
use Rattle.hashlink_lru.specs.Cached.{FitsAndWritesLast, FitsUnless, MovesOrMakes, PutsNewIn, UsesAndWrites}
use Rattle.hashlink_lru.specs.Cached.{StaysWithinOne}

-- ---- the last entry of a list

last-kept : {K V : Type 0} (es : List (K × V)) (n : ℕ) → 1 ≤ n → last_of (last_entries es n) ≡ last_of es
last-kept es n one =
    let few = length-last_entries es n in
    ⊎_elim (λ (all : length es < n). ap last_of (last_entries-within es n (omega arith)))
    (λ (more : n ≤ length es).
    sym (last_of-append (take (length es - n) es) (last_entries es n) (omega arith))
    ∙ ap last_of (last_entries-end es n)) (cases_lt (length es) n)

last-written : {K V : Type 0} (es : List (K × V)) (k : K) (v w : V)
    → set_value_at (es ++ (k, v) ∷ []) (length (es ++ (k, v) ∷ []) - 1) w ≡ es ++ (k, w) ∷ []
last-written es k v w =
    let n : length (es ++ (k, v) ∷ []) - 1 ≡ length es = omega (arith, length-append es ((k, v) ∷ [])) in
    rw n (set_value_at-here es (k, v) [] w)

-- ---- a miss, and the insert of an absent key

module _ {K V S : Type 0} (eq : K → K → Bool) (laws : IsEquivalence eq) (old mid : CacheState K V S)
    (k : K) (v : V) (s : PutsNewIn eq old mid k v) where
  abbrev most : ℕ
  most = max old.cap 1

  -- the other entries that were not dropped; the new entry follows them
  abbrev kept : List (K × V)
  kept = drop (length old.map.entries + 1 - most) old.map.entries

  kept_last : (w : V) → last_entries (old.map.entries ++ (k, w) ∷ []) most ≡ kept ++ (k, w) ∷ []
  kept_last w =
      let long = length-append old.map.entries ((k, w) ∷ []) in
      ap (λ n. drop (n - most) (old.map.entries ++ (k, w) ∷ [])) long
      ∙ drop-append-le (length old.map.entries + 1 - most) old.map.entries ((k, w) ∷ []) (omega arith)

  went_last : s.map.between.entries ≡ old.map.entries ++ (k, v) ∷ []
  went_last =
      s.map.inserts.adds.entries
      ∙ put_back_absent eq old.map.entries k v (none_from_lookup (eq k) old.map.entries s.map.inserts.absent)

  stands_last : mid.map.entries ≡ kept ++ (k, v) ∷ []
  stands_last = s.map.fits.entries ∙ ap (λ zs. last_entries zs most) went_last ∙ kept_last v

  -- a value that is written there is the one that was inserted
  put_written : (w : V)
      → PutsNewIn eq old (record mid { map = with_value mid.map (length mid.map.entries - 1) w }) k w
  put_written w =
      let es = s.map.between.entries in
      let j = length old.map.entries in
      let there : set_value_at es j w ≡ old.map.entries ++ (k, w) ∷ []
      = ap (λ zs. set_value_at zs j w) went_last ∙ set_value_at-here old.map.entries (k, v) [] w in
      let few = length-last_entries es most in
      let few' = length-last_entries (set_value_at es j w) most in
      let long : length (set_value_at es j w) ≡ length es = length-set_value_at es j w in
      let same : length (last_entries (set_value_at es j w) most) ≡ length (last_entries es most)
      = omega arith in
      let fits = s.map.fits in
      record {
        map = record {
          between = with_value s.map.between j w;
          inserts = adds-rewritten-at laws old.map s.map.between k v j
              (with_value s.map.between j w) w s.map.inserts refl refl;
          fits = record {
            entries =
                ap (λ zs. set_value_at zs (length zs - 1) w) stands_last ∙ last-written _ k v w
                ∙ sym (kept_last w) ∙ ap (λ zs. last_entries zs most) (sym there);
            no_more = omega (arith, fits.no_more);
            spare = omega (arith, fits.spare);
            room = fits.room;
            link_writes = record {
              grows = fits.link_writes.grows;
              bound = omega (arith, fits.link_writes.bound);
            };
            hasher = fits.hasher;
          };
        };
        cap = s.cap;
      }

  put_within : StaysWithinOne old mid
  put_within = λ n one within.
      let few = length-last_entries s.map.between.entries (max old.cap 1) in
      let kept = ap length s.map.fits.entries in
      let cap = s.cap in omega arith

-- ---- a hit

module _ {K V S : Type 0} (eq : K → K → Bool) (laws : IsEquivalence eq) (old mid : CacheState K V S)
    (k : K) (v : V) (s : CacheGets eq old mid k (Some v)) where
  abbrev hit_entry : K × V
  hit_entry = (stored_key eq old.map.entries k, v)

  hit_last : last_of mid.map.entries ≡ Some hit_entry
  hit_last = ap last_of (gets_hit eq old mid k v s) ∙ last_of-end (without eq old.map.entries k) hit_entry

  -- a value that is written there is written as by `get_mut`
  hit_written : IsEntries eq old.map.entries → (w : V)
      → CacheGetsAndWrites eq old (record mid { map = with_value mid.map (length mid.map.entries - 1) w }) k w
  hit_written d w =
      let es = mid.map.entries in
      let apart : IsEntries eq es
      = subst (IsEntries eq) (sym s.map.step.entries)
      (IsEntries-moved eq laws old.map.entries k (length old.map.entries) d) in
      let place : place_of (eq k) es ≡ Some (length es - 1)
      = place_of_its_key eq laws es (length es - 1) hit_entry k apart hit_last
      (stored_key-equal eq laws k old.map.entries) in
      record {
        map = record {
          between = mid.map;
          moves = s.map.step;
          writes = ap (λ zs. record mid.map { entries = zs })
              (set_value_at-place (eq k) es (length es - 1) w place);
        };
        cap = s.cap;
      }

-- ---- the map's step, by which a key is used

module _ {K V S : Type 0} (eq : K → K → Bool) (Makes : V → Type 0) (old : MapState K V S)
    (new : MapState K V S) (k : K) (m : MovesOrMakes eq Makes old new k) where
  end_is : new.entries ≡ without eq old.entries k ++ (stored_key eq old.entries k, m.0) ∷ []
  end_is = put_entries eq old new k m.0 (lookup (eq k) old.entries) m.2 ∙ put_back eq old.entries k m.0

  last_is : option_map (λ e. e.1) (last_of new.entries) ≡ Some m.0
  last_is =
      ap (λ es. option_map (λ e. e.1) (last_of es)) end_is
      ∙ ap (option_map (λ e. e.1)) (last_of-end (without eq old.entries k) (stored_key eq old.entries k, m.0))

  -- so its value is the lent one
  pub lent_value : (v : V) → Some v ≡ option_map (λ e. e.1) (last_of new.entries)
      → UnwrapsOrElse (lookup (eq k) old.entries) Makes v
  lent_value v at =
      subst (UnwrapsOrElse (lookup (eq k) old.entries) Makes) (same_Some m.0 v (sym (at ∙ last_is))) m.1

  pub some_lent : (r : Option (MutBor V))
      → option_copied_mut r ≡ option_map (λ e. e.1) (last_of new.entries) → IsSome r
  some_lent None none = absurd (none-some m.0 (none ∙ last_is))
  some_lent (Some v) some = refl

-- the map's step, from the clauses of a call that lent the value
pub moved_or_made : {K V S E : Type 0} (eq : K → K → Bool) (Makes : V → Type 0) (old new : MapState K V S)
    (k : K) (r : Result (MutBor V) E) (v : MutBor V) → r ≡ Ok v
    → UnwrapsOrElse (lookup (eq k) old.entries) Makes v.now → (IsOk r → PutsLast eq old new k v.now)
    → MovesOrMakes eq Makes old new k
moved_or_made eq Makes old new k r v is made puts = (v.now, made, puts (subst IsOk (sym is) refl))

-- a cache fitted to its capacity has the same last entry
pub same_last : {K V S : Type 0} (n : ℕ) (old new : CacheState K V S) → FitsUnless n old new
    → last_of new.map.entries ≡ last_of old.map.entries
same_last n old new =
    ⊎_elim (λ same. ap (λ c. last_of c.map.entries) same.1)
    (λ more. ap last_of more.1.map.entries ∙ last-kept old.map.entries (max old.cap 1) (omega arith))

-- ---- a use whose value is lent

module _ {K V S : Type 0} (eq : K → K → Bool) (laws : IsEquivalence eq) (Makes : V → Type 0)
    (old : CacheState K V S) (between : MapState K V S) (k : K) where
  abbrev Made : Option V → Type 0
  Made o = (v : V) × UnwrapsOrElse o Makes v × Inserts eq old.map between k v (length old.map.entries) (Ok o)

  pub used_and_written : (n : ℕ) → n ≡ length old.map.entries → IsEntries eq old.map.entries
      → MovesOrMakes eq Makes old.map between k → (w : V) (new : CacheState K V S)
      → FitsAndWritesLast n (record { map = between; cap = old.cap }) new w
      → UsesAndWrites eq old new k w × StaysWithinOne old new
  used_and_written n long d made w new s = by (lookup (eq k) old.map.entries) refl made
    where
      by : (o : Option V) → lookup (eq k) old.map.entries ≡ o → Made o
          → MatchOption o (PutsNewIn eq old new k w) (λ _. CacheGetsAndWrites eq old new k w)
          × StaysWithinOne old new
      by None l m =
          let one = ap length m.2.adds.entries ∙ m.2.adds.more in
          let fits = ⊎_elim (λ same. absurd (omega (arith, same.0))) (λ more. more.1) s.1 in
          let p = subst (λ c. PutsNewIn eq old c k w) (sym s.2) (put_written eq laws old s.0 k m.0
          (record { map = record { between = between; inserts = m.2; fits = fits.map }; cap = fits.cap })
          w) in
          (p, put_within eq laws old new k w p)
      by (Some x) l m =
          let es = old.map.entries in
          let end = length es in
          let few = ap length m.2.puts.entries ∙ length-put_there eq es k m.0 end x l in
          let same = ⊎_elim (λ same. same.1) (λ more. absurd (more.0 (few ∙ sym long))) s.1 in
          let moves = subst (λ xs. Changes old.map between xs 6)
          (ap (λ u. put eq es k u end) m.1 ∙ sym (moved-there eq es k end x l)) m.2.puts in
          let gets = subst (λ c. CacheGets eq old c k (Some x)) (sym same)
          (record { map = record { answer = sym l; step = moves }; cap = refl }) in
          let g = subst (λ c. CacheGetsAndWrites eq old c k w) (sym s.2)
          (hit_written eq laws old s.0 k x gets d w) in
          (g, λ n one within. within-gets_match_and_writes old new n (eq k) w g within)
