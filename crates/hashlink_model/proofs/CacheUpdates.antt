-- What a lookup finds after an insert into a cache.
use Rattle.hashlink_model.proofs.Names.{◌≡◌, ◌⊎◌, ℕ, ◌-◌, ◌≤◌, Bool, List, [], ◌∷◌, ◌++◌, length, drop, take}
use Rattle.hashlink_model.proofs.Names.{Option, None, Some, inl, inr, refl, sym, ap, ◌∙◌, subst, arith}
use Rattle.hashlink_model.proofs.Names.{append_assoc, take-append-drop, option_map, IsEquivalence, lookup}
use Rattle.hashlink_model.proofs.Names.{lookup_entry, IsEntries, put, cache_put, last_entries, without}
use Rattle.hashlink_model.{proofs.Names.{stored_key, false, IsKeyTest, NonePasses}, specs.Weights.fitting}
use Rattle.hashlink_model.specs.Lookups.{EvictsOthers, Updates, UpdatesFitting, UpdatesWithin}
use Rattle.hashlink_model.proofs.{Splits.{Stands, splits, lookup-here, lookup-none}, Distinct.each-right}
use Rattle.hashlink_model.proofs.{Finds.{lookup_is, stored_key-equal}, Places.none_before}
use Rattle.hashlink_model.proofs.{Puts.{put_back, IsEntries-put}, Afterwards.{length-put, length-put_there}}
use Rattle.hashlink_model.proofs.Caches.{last_entries-end, length-last_entries, last_entries-within}
use Rattle.hashlink_model.proofs.{Caches.cache_put-with_a_place}
use Rattle.hashlink_model.proofs.{Remaining.{last_stays, found_in_end}, Updates.{fails_apart, updates-put}}
use Rattle.hashlink_model.proofs.Weighted.{fitting-end, length-weighted_put}
use Rattle.std.{specs.Map.AreApart, specs.Prelude.IsSome, proofs.Common.⊎_elim, proofs.Math.Path.fun_ext}

module _ {K V : Type 0} (eq : K → K → Bool) (old new : List (K × V)) (k : K) where
  abbrev IsLeft : (K → Bool) → Type 0
  IsLeft test = (lookup test new ≡ None) ⊎ (lookup test new ≡ lookup test old)

  -- goal: what holds for each key but k holds for each query apart from k
  pub evicts-others : ((q : K) → eq k q ≡ false → IsLeft (eq q)) → EvictsOthers eq old new k
  evicts-others each = (each, λ test tells apart. by test tells apart (splits test new))
    where
      by : (test : K → Bool) → IsKeyTest eq test → AreApart (eq k) test
          → NonePasses test new ⊎ Stands test new → IsLeft test
      by test tells apart (inl none) = inl (lookup-none test new none)
      by test tells apart (inr s) =
          subst IsLeft (sym (fun_ext (λ x. tells s.1.0 x s.3.passes)))
          (each s.1.0 (fails_apart (eq k) test apart s.1.0 s.3.passes))

module _ {K V : Type 0} (eq : K → K → Bool) (laws : IsEquivalence eq) where
  -- in an end of the list, a lookup finds nothing, or what it finds in the whole list
  by_found : (q : K) (front back : List (K × V)) → IsEntries eq (front ++ back) → (o : Option (K × V))
      → lookup_entry (eq q) back ≡ o
      → (lookup (eq q) back ≡ None) ⊎ (lookup (eq q) back ≡ lookup (eq q) (front ++ back))
  by_found q front back d None l = inl (lookup_is (eq q) back ∙ ap (option_map (λ e. e.1)) l)
  by_found q front back d (Some e) l =
      let whole = found_in_end eq laws q e front back d l in
      inr (lookup_is (eq q) back ∙ ap (option_map (λ e. e.1)) (l ∙ sym whole)
      ∙ sym (lookup_is (eq q) (front ++ back)))

  in_the_end : (q : K) (n : ℕ) (es : List (K × V)) → IsEntries eq es
      → (lookup (eq q) (drop n es) ≡ None) ⊎ (lookup (eq q) (drop n es) ≡ lookup (eq q) es)
  in_the_end q n es d =
      let whole = take-append-drop n es in
      subst (λ zs. (lookup (eq q) (drop n es) ≡ None) ⊎ (lookup (eq q) (drop n es) ≡ lookup (eq q) zs)) whole
      (by_found q (take n es) (drop n es) (subst (IsEntries eq) (sym whole) d)
      (lookup_entry (eq q) (drop n es)) refl)

  -- a key that was put last is in every end that is not empty
  last_here : (es : List (K × V)) (k : K) (v : V) (front back : List (K × V))
      → IsEntries eq (put eq es k v (length es)) → put eq es k v (length es) ≡ front ++ back
      → 1 ≤ length back → lookup (eq k) back ≡ Some v
  last_here es k v front back d is l =
      let k0 = stored_key eq es k in
      let s = last_stays (without eq es k) (k0, v) front back (sym (put_back eq es k v) ∙ is) l in
      let whole : put eq es k v (length es) ≡ (front ++ s.0) ++ (k0, v) ∷ []
      = is ∙ ap (λ zs. front ++ zs) s.1 ∙ sym (append_assoc front s.0 ((k0, v) ∷ [])) in
      let same = stored_key-equal eq laws k es in
      let none = none_before eq laws (front ++ s.0) (k0, v) [] k (subst (IsEntries eq) whole d) same in
      ap (lookup (eq k)) s.1 ∙ lookup-here (eq k) (k0, v) [] same s.0 (each-right _ front s.0 none)

  length_put : (es : List (K × V)) (k : K) (v : V) (o : Option V) → lookup (eq k) es ≡ o → IsSome o
      → length (put eq es k v (length es)) ≡ length es
  length_put es k v None found there = absurd (cc there)
  length_put es k v (Some w) found there = length-put_there eq es k v (length es) w found

  -- goal: the lookups after an insert into a cache
  pub updates-cache_put : (es : List (K × V)) (cap : ℕ) (k : K) (v : V)
      → IsEntries eq (put eq es k v (length es)) → Updates eq es (put eq es k v (length es)) k (Some v)
      → UpdatesWithin eq cap es (cache_put eq es cap k v) k v
  updates-cache_put es cap k v d u =
      let zs = put eq es k v (length es) in
      let more = length-put eq es k v (length es) in
      let few = length-last_entries zs cap in (
        λ some. last_here es k v (take (length zs - cap) zs) (last_entries zs cap) d
            (sym (last_entries-end zs cap)) (omega (arith, some, more, few)),
        evicts-others eq es (last_entries zs cap) k (λ q n.
            ⊎_elim (λ e. inl e) (λ e. inr (e ∙ u.2 q n)) (in_the_end q (length zs - cap) zs d)),
        λ room. subst (λ ys. Updates eq es ys k (Some v)) (sym (cache_put-with_a_place eq es cap k v room)) u,
        λ there room. subst (λ ys. Updates eq es ys k (Some v)) (sym (last_entries-within zs cap
            (omega (arith, room, length_put es k v (lookup (eq k) es) refl there)))) u,
      )

  -- the same from the steps of the insert
  pub updates-kept_last : (es mid new : List (K × V)) (cap : ℕ) (k : K) (v : V)
      → mid ≡ put eq es k v (length es) → IsEntries eq mid → Updates eq es mid k (Some v)
      → new ≡ last_entries mid cap → UpdatesWithin eq cap es new k v
  updates-kept_last es mid new cap k v put_last d u kept =
      let is : new ≡ cache_put eq es cap k v = kept ∙ ap (λ zs. last_entries zs cap) put_last in
      subst (λ zs. UpdatesWithin eq cap es zs k v) (sym is)
      (updates-cache_put es cap k v (subst (IsEntries eq) put_last d)
      (subst (λ zs. Updates eq es zs k (Some v)) put_last u))

  -- the same from the list that the insert leaves
  pub updates-pushed : (es new : List (K × V)) (cap : ℕ) (k : K) (v : V) → IsEntries eq es
      → new ≡ cache_put eq es cap k v → UpdatesWithin eq cap es new k v
  updates-pushed es new cap k v d is =
      subst (λ zs. UpdatesWithin eq cap es zs k v) (sym is)
      (updates-cache_put es cap k v (IsEntries-put eq laws es k v (length es) d)
      (updates-put eq laws es k v (length es) d))

-- goal: the lookups after an insert into a cache with a budget
pub updates-fitted : {K V : Type 0} (eq : K → K → Bool) → IsEquivalence eq
    → (es mid new : List (K × (V × ℕ))) (budget : ℕ) (k : K) (v : V) (weight : ℕ)
    → mid ≡ put eq es k (v, weight) (length es) → IsEntries eq mid → Updates eq es mid k (Some (v, weight))
    → weight ≤ budget → new ≡ fitting mid budget → UpdatesFitting eq es new k (v, weight)
updates-fitted eq laws es mid new budget k v weight put_last d u light kept =
    let s = fitting-end mid budget in
    let some : 1 ≤ length (fitting mid budget)
    = subst (λ ys. 1 ≤ length (fitting ys budget)) (sym put_last)
    (length-weighted_put eq es budget k v weight light) in
    let whole = subst (IsEntries eq) s.1 d in
    subst (λ ys. UpdatesFitting eq es ys k (v, weight)) (sym kept) (
      last_here eq laws es k (v, weight) s.0 (fitting mid budget) (subst (IsEntries eq) put_last d)
          (sym put_last ∙ s.1) some,
      evicts-others eq es (fitting mid budget) k (λ q n.
          ⊎_elim (λ e. inl e) (λ e. inr (e ∙ ap (lookup (eq q)) (sym s.1) ∙ u.2 q n))
          (by_found eq laws q s.0 (fitting mid budget) whole (lookup_entry (eq q) (fitting mid budget))
          refl)),
    )
