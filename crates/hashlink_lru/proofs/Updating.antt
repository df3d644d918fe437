-- What a look-up finds after evictions, and after a value that a use lent was written.
use Rattle.std.specs.Prelude.{◌≡◌, ◌⊎◌, ℕ, Bool, List, ◌++◌, max, length, take, drop, Option, None, Some}
use Rattle.std.specs.{Prelude.MatchOption, Cmp.IsEquivalence, Map.{lookup, lookup_entry, set_value}}
use Rattle.std.{specs.Option.option_map, proofs.Common.{refl, ap, sym, subst, ◌∙◌, is_some, inl, inr, arith}}
use Rattle.std.proofs.{Math.Path.fun_ext, lemmas.List.take-append-drop, lemmas.Map.NonePasses}
use Rattle.hashlink_model.specs.Cache.{CacheState, CacheGetsAndWrites, last_entries}
use Rattle.hashlink_model.specs.Lookups.{EvictsSome, UpdatesFitting}
use Rattle.hashlink_model.{specs.Entries.{IsEntries, IsKeyTest, moved_match}, proofs.Finds.lookup_is}
use Rattle.hashlink_model.proofs.{CacheUpdates.{evicts-others, updates-pushed}, Remaining.found_in_end}
use Rattle.hashlink_model.proofs.{Splits.{Stands, splits, lookup-none}, Updates.updates-lent_moved}
use Rattle.hashlink_lru.specs.Cached.{PutsNewIn, UpdatesUsed}

-- ---- evictions from the front

module _ {K V : Type 0} (eq : K → K → Bool) (laws : IsEquivalence eq) (n : ℕ) (es new : List (K × V))
    (d : IsEntries eq es) (is : new ≡ drop n es) where
  abbrev IsLeft : (K → Bool) → Type 0
  IsLeft test = (lookup test new ≡ None) ⊎ (lookup test new ≡ lookup test es)

  left_by : (q : K) (o : Option (K × V)) → lookup_entry (eq q) new ≡ o → IsLeft (eq q)
  left_by q None l = inl (lookup_is (eq q) new ∙ ap (option_map (λ e. e.1)) l)
  left_by q (Some e) l =
      let all : take n es ++ new ≡ es = ap (λ zs. take n es ++ zs) is ∙ take-append-drop n es in
      let whole = found_in_end eq laws q e (take n es) new (subst (IsEntries eq) (sym all) d) l in
      inr (lookup_is (eq q) new ∙ ap (option_map (λ e. e.1)) (l ∙ sym whole)
      ∙ sym (lookup_is (eq q) (take n es ++ new)) ∙ ap (lookup (eq q)) all)

  pub evicts-some : EvictsSome eq es new
  evicts-some =
      (λ q. left_by q (lookup_entry (eq q) new) refl, λ test tells. by test tells (splits test new))
    where
      by : (test : K → Bool) → IsKeyTest eq test → NonePasses test new ⊎ Stands test new → IsLeft test
      by test tells (inl none) = inl (lookup-none test new none)
      by test tells (inr s) =
          subst IsLeft (sym (fun_ext (λ x. tells s.1.0 x s.3.passes)))
          (left_by s.1.0 (lookup_entry (eq s.1.0) new) refl)

-- ---- a use

module _ {K V S : Type 0} (eq : K → K → Bool) (laws : IsEquivalence eq) (old new : CacheState K V S) (k : K)
    (w : V) (d : IsEntries eq old.map.entries) where
  updates-new : PutsNewIn eq old new k w → UpdatesFitting eq old.map.entries new.map.entries k w
  updates-new s =
      let kept = s.map.fits.entries
      ∙ ap (λ es. last_entries es (max old.cap 1)) s.map.inserts.adds.entries in
      let u = updates-pushed eq laws old.map.entries new.map.entries (max old.cap 1) k w d kept in
      (u.0 (omega arith), u.1)

  updates-hit : (v : V) → lookup (eq k) old.map.entries ≡ Some v → CacheGetsAndWrites eq old new k w
      → UpdatesFitting eq old.map.entries new.map.entries k w
  updates-hit v at s =
      let es = old.map.entries in
      let moved = moved_match (eq k) es (length es) in
      let is : new.map.entries ≡ set_value (eq k) moved w
      = ap (λ m. m.entries) s.map.writes ∙ ap (λ zs. set_value (eq k) zs w) s.map.moves.entries in
      let u = updates-lent_moved eq laws (eq k) (laws.congr k) es (length es) d (ap is_some at) w in
      subst (λ zs. UpdatesFitting eq es zs k w) (sym is)
      (u.1, evicts-others eq es (set_value (eq k) moved w) k (λ q n. inr (u.2 q n)))

  by_answer : (o : Option V) → lookup (eq k) old.map.entries ≡ o
      → MatchOption o (PutsNewIn eq old new k w) (λ _. CacheGetsAndWrites eq old new k w)
      → UpdatesFitting eq old.map.entries new.map.entries k w
  by_answer None at s = updates-new s
  by_answer (Some v) at s = updates-hit v at s

-- goal: the look-ups after a use, whatever is written
pub updates-used : {K V S : Type 0} (eq : K → K → Bool) → IsEquivalence eq → (old : CacheState K V S) (k : K)
    → IsEntries eq old.map.entries → UpdatesUsed eq old k
updates-used eq laws old k d = λ new w s.
    by_answer eq laws old new k w d (lookup (eq k) old.map.entries) refl s
