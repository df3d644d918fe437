-- Lemmas for callers: a cache's entries after a call. The comment over each lemma names the goal that it
-- closes.
use Rattle.std.proofs.Common.{◌≡◌, ℕ, Bool, true, false, cond, List, [], ◌∷◌, ◌++◌, length, Option, None}
use Rattle.std.proofs.Common.{Some, Ok, refl, sym, ap, subst, ◌∙◌, arith, ◌≤◌, zero, suc}
use Rattle.std.proofs.Common.{is_some, ◌-◌, take, drop, max}
use Rattle.std.proofs.lemmas.List.{take-append-drop}
use Rattle.std.proofs.lemmas.List.Elements.{All-same, All-drop}
use Rattle.std.proofs.lemmas.Map.{NonePasses}
use Rattle.std.specs.Cmp.{IsEquivalence}
use Rattle.std.specs.Map.{lookup, set_value}
use Rattle.std.specs.Option.{option_map, option_or, option_to_list, option_map_or}
use Rattle.std.specs.Prelude.{MatchOption, All}
use Rattle.hashlink_lru.proofs.Evicting.{long, named, named_first, unnamed}
use Rattle.hashlink_lru.specs.Cached.{PutsNewIn, UsesAndWrites}
use Rattle.hashlink_lru.specs.Evicted.{pushed_out, evicted_by, evicted_entries}
use Rattle.hashlink_map.proofs.EachEntry.{All-put, All-moved_match, All-set_value}
use Rattle.hashlink_map.proofs.Listed.{by_first, lookup-behind}
use Rattle.hashlink_model.proofs.Afterwards.{lookup-put, length-put_absent, length-put_there}
use Rattle.hashlink_model.proofs.CacheSteps.{inserts_entries as cache_inserts_entries}
use Rattle.hashlink_model.proofs.Finds.{stored_key-equal}
use Rattle.hashlink_model.proofs.Puts.{IsEntries-put, put_back_absent, none_without}
use Rattle.hashlink_model.proofs.Splits.{none_from_lookup}
use Rattle.hashlink_model.specs.Cache.{CacheState, IsWithin, cache_put, CacheGetsAndWrites, CacheInserts}
use Rattle.hashlink_model.specs.Cache.{last_entries}
use Rattle.hashlink_model.specs.Entries.{IsEntries, put, moved_match, stored_key, without}
use Rattle.hashlink_model.specs.Walk.{first_of}

module _ {K V : Type 0} (P : K × V → Type 0) where
  -- goal: `All P (cache_put eq es cap k v)`, as after a cache's insert
  pub All-cache_put : (eq : K → K → Bool) (es : List (K × V)) (cap : ℕ) (k : K) (v : V)
      → P (stored_key eq es k, v)
      → All P es
      → All P (cache_put eq es cap k v)
  All-cache_put eq es cap k v p a =
      let zs = put eq es k v (length es) in
      All-drop P (length zs - cap) zs (All-put P eq es k v (length es) p a)

module _ {K V : Type 0} (eq : K → K → Bool) (laws : IsEquivalence eq) (q : K) where
  -- goal: `lookup` after a cache's insert, by the entry that `evicted_by` names
  module _ {S : Type 0} (old new : CacheState K V S) (k : K) (v : V) where
    pub lookup-cache_inserts : (w : Option V) → CacheInserts eq old new k v (Ok w)
        → IsEntries eq old.map.entries → IsWithin old 0 → 1 ≤ old.cap
        → lookup (eq q) new.map.entries
        ≡ cond (eq k q) (Some v) (cond (option_map_or (λ e. eq e.0 q)
        (evicted_by (eq k) old.map.entries old.cap) false) None (lookup (eq q) old.map.entries))
    lookup-cache_inserts w s d within some =
        ap (lookup (eq q)) (cache_inserts_entries eq old new k v w s)
        ∙ by (evicted_by (eq k) old.map.entries old.cap) refl
      where
        es : List (K × V)
        es = old.map.entries

        zs : List (K × V)
        zs = put eq es k v (length es)

        found : lookup (eq q) zs ≡ cond (eq k q) (Some v) (lookup (eq q) es)
        found = lookup-put eq laws q es k v (length es) d

        by : (o : Option (K × V)) → evicted_by (eq k) es old.cap ≡ o
            → lookup (eq q) (cache_put eq es old.cap k v)
            ≡ cond (eq k q) (Some v) (cond (option_map_or (λ e. eq e.0 q) o false) None (lookup (eq q) es))
        by None n = ap (lookup (eq q)) (unnamed eq es old.cap k v n some) ∙ found
        by (Some e) n =
            let first = named_first eq es old.cap k v e n in
            let whole : zs ≡ e ∷ drop 1 zs = first.1 ∙ ap (λ ys. e ∷ ys) (sym (ap (drop 1) first.1)) in
            let full = named eq es old.cap k v e n in
            let other = (subst (NonePasses (eq k)) (by_first (without eq es k) (Some e) (sym full.1))
            (none_without eq laws es k d)).0 in
            let more = long eq es old.cap k v in
            let one : length zs - old.cap ≡ 1
            = grind (
              arith,
              more,
              full.0,
              within,
              length-put_absent eq es k v (length es),
              length-put_there eq es k v (length es),
            ) in
            let behind = lookup-behind eq laws q e (drop 1 zs) (subst (IsEntries eq) whole
            (IsEntries-put eq laws es k v (length es) d)) in
            let none = ap (λ o. cond (eq e.0 q) None o) (sym (ap (lookup (eq q)) whole) ∙ found) in
            ap (λ m. lookup (eq q) (drop m zs)) one ∙ behind ∙ none
            ∙ grind (arith, other, laws.congr k q e.0, laws.symm q e.0)

-- ---- a use of a cache whose value is lent, as by `get_or_insert_with` and `get_or_try_insert_with`

module _ {K V S : Type 0} (eq : K → K → Bool) (old new : CacheState K V S) (k : K) (v : V) where
  -- what a use leaves, by what was found: a key that was there is last with v, and an absent one is put last
  -- with v, after which the last `cap` entries stay, or at capacity 0 the new one
  abbrev pub used_by : Option V → List (K × V)
  used_by o =
      let es = old.map.entries in
      cond (is_some o) (set_value (eq k) (moved_match (eq k) es (length es)) v)
      (last_entries (put eq es k v (length es)) (max old.cap 1))

  used_at : (o : Option V) → MatchOption o (PutsNewIn eq old new k v) (λ _. CacheGetsAndWrites eq old new k v)
      → new.map.entries ≡ used_by o
  used_at None s =
      s.map.fits.entries ∙ ap (λ es. last_entries es (max old.cap 1)) s.map.inserts.adds.entries
  used_at (Some w) s =
      ap (λ m. m.entries) s.map.writes ∙ ap (λ es. set_value (eq k) es v) s.map.moves.entries

  -- goal: a cache's entries once v was written through what a use lent. The step is
  -- `c.get_or_try_insert_with.follows.holds v`, at an `Ok`
  pub used_entries : UsesAndWrites eq old new k v → new.map.entries ≡ used_by (lookup (eq k) old.map.entries)
  used_entries s = used_at (lookup (eq k) old.map.entries) s

  -- goal: `All P` of them
  pub All-used : (P : K × V → Type 0) → IsEquivalence eq → UsesAndWrites eq old new k v
      → ((q : K) → eq k q ≡ true → P (q, v)) → All P old.map.entries
      → All P new.map.entries
  All-used P laws s p a =
      let es = old.map.entries in
      let zs = put eq es k v (length es) in
      let hit = All-set_value P (eq k) _ v p (All-moved_match P (eq k) es (length es) a) in
      let miss = All-drop P (length zs - max old.cap 1) zs
      (All-put P eq es k v (length es) (p _ (stored_key-equal eq laws k es)) a) in
      All-same P new.map.entries _ (used_entries s) (by (lookup (eq k) es) hit miss)
    where
      by : (o : Option V)
          → All P (set_value (eq k) (moved_match (eq k) old.map.entries (length old.map.entries)) v)
          → All P (last_entries (put eq old.map.entries k v (length old.map.entries)) (max old.cap 1))
          → All P (used_by o)
      by None hit miss = miss
      by (Some w) hit miss = hit

-- ---- what a push hands out

-- one entry at most is evicted
first_evicted : {X : Type 0} (xs : List X) (n : ℕ) → n ≤ 1
    → option_to_list (first_of (take n xs)) ≡ take n xs
first_evicted xs zero le = refl
first_evicted [] (suc n) le = refl
first_evicted (x ∷ xs) (suc zero) le = refl
first_evicted (x ∷ xs) (suc (suc n)) le = absurd (omega arith)

module _ {K V : Type 0} (eq : K → K → Bool) (es : List (K × V)) (cap : ℕ) (k : K) (v : V) where
  -- goal: what a push of an absent key returns and what it leaves, if the cache is within its capacity: the
  -- old entries and the new pair, at capacity 0 too
  pub pushed_absent : lookup (eq k) es ≡ None → length es ≤ cap
      → option_to_list (pushed_out eq es cap k v) ++ cache_put eq es cap k v ≡ es ++ (k, v) ∷ []
  pushed_absent none within =
      let zs = put eq es k v (length es) in
      let is : zs ≡ es ++ (k, v) ∷ [] = put_back_absent eq es k v (none_from_lookup (eq k) es none) in
      let more = length-put_absent eq es k v (length es) none in
      let one : length zs - cap ≤ 1 = omega (arith, more, within) in
      let evicted = first_of (evicted_entries zs cap) in
      let out : option_to_list (pushed_out eq es cap k v) ≡ take (length zs - cap) zs
      = ap (λ o. option_to_list (option_or (option_map (λ w. (k, w)) o) evicted)) none
      ∙ first_evicted zs (length zs - cap) one in
      ap (λ xs. xs ++ cache_put eq es cap k v) out ∙ take-append-drop (length zs - cap) zs ∙ is
