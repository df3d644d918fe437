-- The entries after a replace of each pair in order, by its value or by what it makes of the value that is
-- there. The comment over each lemma names the goal that it closes.
use Rattle.std.proofs.Common.{◌≡◌, Bool, true, false, cond, List, [], ◌∷◌, ◌++◌, Option, None, Some, refl}
use Rattle.std.proofs.Common.{ap, ◌∙◌, arith, is_some, map, option_map, sym}
use Rattle.std.proofs.lemmas.List.{append-nil, map-append, Sums.fold-append}
use Rattle.std.proofs.lemmas.List.Folds.{list_any-append}
use Rattle.std.specs.{Cmp.IsEquivalence, Map.{keys_of, lookup, set_value}, Prelude.fold, Set.is_member}
use Rattle.std.specs.Option.{option_map_or, option_or}
use Rattle.hashlink_map.proofs.Listed.{keys-put_in_place, put_in_place}
use Rattle.hashlink_map.proofs.MappedValues.{is_some-map_values, lookup-map_values, set_value-map_values}
use Rattle.hashlink_model.proofs.{Afterwards.lookup-put, Finds.lookup-equal, Puts.IsEntries-put}
use Rattle.hashlink_model.proofs.Distinct.{IsEntries-head, IsEntries-tail, none_equal}
use Rattle.hashlink_model.proofs.Splits.{lookup-none}
use Rattle.hashlink_model.specs.Entries.{IsEntries, place_or_end, put}

module _ {K V X : Type 0} (eq : K → K → Bool) (made : Option V → X → V) where
  -- each pair in order: a present key keeps its place and takes what is made of its value and the pair's; an
  -- absent one is added last with what is made of the pair's
  abbrev pub combined : List (K × V) → List (K × X) → List (K × V)
  combined es pairs =
      fold (λ zs p. put eq zs p.0 (made (lookup (eq p.0) zs) p.1) (place_or_end eq zs p.0)) es pairs

  -- goal: no key is lost
  pub is_member-combined : (q : K) (es : List (K × V)) (pairs : List (K × X))
      → is_member eq (keys_of es) q ≡ true → is_member eq (keys_of (combined es pairs)) q ≡ true
  is_member-combined q es [] there = there
  is_member-combined q es (p ∷ pairs) there =
      let v = made (lookup (eq p.0) es) p.1 in
      is_member-combined q (put eq es p.0 v (place_or_end eq es p.0)) pairs
      (ap (λ ks. is_member eq ks q) (keys-put_in_place eq es p.0 v) ∙ by (is_member eq (keys_of es) p.0))
    where
      by : (b : Bool) → is_member eq (cond b (keys_of es) (keys_of es ++ p.0 ∷ [])) q ≡ true
      by true = there
      by false = grind (arith, there, list_any-append (λ k. eq q k) (keys_of es) (p.0 ∷ []))

  module _ (laws : IsEquivalence eq) where
    -- goal: no two keys are equal
    pub IsEntries-combined : (es : List (K × V)) (pairs : List (K × X)) → IsEntries eq es
        → IsEntries eq (combined es pairs)
    IsEntries-combined es [] d = d
    IsEntries-combined es (p ∷ pairs) d =
        let v = made (lookup (eq p.0) es) p.1 in
        IsEntries-combined (put eq es p.0 v (place_or_end eq es p.0)) pairs
        (IsEntries-put eq laws es p.0 v (place_or_end eq es p.0) d)

    -- goal: `lookup`, if no two of the pairs have equal keys
    pub lookup-combined : (q : K) (es : List (K × V)) (pairs : List (K × X)) → IsEntries eq es
        → IsEntries eq pairs
        → lookup (eq q) (combined es pairs)
        ≡ option_map_or (λ x. Some (made (lookup (eq q) es) x)) (lookup (eq q) pairs) (lookup (eq q) es)
    lookup-combined q es [] d e = refl
    lookup-combined q es (p ∷ pairs) d e =
        let v = made (lookup (eq p.0) es) p.1 in
        let b = place_or_end eq es p.0 in
        lookup-combined q (put eq es p.0 v b) pairs (IsEntries-put eq laws es p.0 v b d)
        (IsEntries-tail eq p pairs e)
        ∙ ap (λ o. option_map_or (λ x. Some (made o x)) (lookup (eq q) pairs) o)
        (lookup-put eq laws q es p.0 v b d) ∙ by (eq p.0 q) refl
      where
        now : Bool → Option V
        now c = cond c (Some (made (lookup (eq p.0) es) p.1)) (lookup (eq q) es)

        by : (c : Bool) → eq p.0 q ≡ c
            → option_map_or (λ x. Some (made (now c) x)) (lookup (eq q) pairs) (now c)
            ≡ option_map_or (λ x. Some (made (lookup (eq q) es) x))
            (cond (eq q p.0) (Some p.1) (lookup (eq q) pairs)) (lookup (eq q) es)
        by true t =
            let none = lookup-none (eq q) pairs
            (none_equal eq laws p.0 q pairs t (IsEntries-head eq p pairs e)) in
            rw (laws.symm q p.0, t, none) (ap (λ o. Some (made o p.1)) (lookup-equal eq laws p.0 q es t))
        by false t = rw (laws.symm q p.0, t) refl

-- ---- one pair more, to entries whose values are seen through f, such as maps seen as their entries

module _ {K V W X : Type 0} (f : V → W) (eq : K → K → Bool) (made : Option W → X → W) where
  module _ (es : List (K × V)) (k : K) (x : X) where
    -- the entries seen, by what is found at the key
    abbrev one_more : Option W → List (K × W)
    one_more o =
        let seen = map (λ e. (e.0, f e.1)) es in
        cond (is_some o) (set_value (eq k) seen (made o x)) (seen ++ (k, made o x) ∷ [])

    one_more_is : (o : Option V) → o ≡ lookup (eq k) es
        → one_more (option_map f o)
        ≡ combined eq made (map (λ e. (e.0, f e.1)) es) ((k, x) ∷ [])
    one_more_is o found =
        sym (put_in_place eq (map (λ e. (e.0, f e.1)) es) k _ ∙ ap one_more
        (lookup-map_values f (eq k) es ∙ ap (option_map f) (sym found)))

    -- goal: by a write through `get_mut` of a present key, and by an insert of an absent one
    pub combined-written : (v w : V) → Some v ≡ lookup (eq k) es → f w ≡ made (Some (f v)) x
        → map (λ e. (e.0, f e.1)) (set_value (eq k) es w)
        ≡ combined eq made (map (λ e. (e.0, f e.1)) es) ((k, x) ∷ [])
    combined-written v w found is =
        set_value-map_values f (eq k) es w
        ∙ ap (set_value (eq k) (map (λ e. (e.0, f e.1)) es)) is ∙ one_more_is (Some v) found

    pub combined-added : (w : V) → None ≡ lookup (eq k) es → f w ≡ made None x
        → map (λ e. (e.0, f e.1)) (es ++ (k, w) ∷ [])
        ≡ combined eq made (map (λ e. (e.0, f e.1)) es) ((k, x) ∷ [])
    combined-added w none is =
        map-append (λ e. (e.0, f e.1)) es ((k, w) ∷ [])
        ∙ ap (λ u. map (λ e. (e.0, f e.1)) es ++ (k, u) ∷ []) is ∙ one_more_is None none

    -- goal: what is left if only the part x of the pair's value was taken, or if the key was not added, by
    -- the pairs that were combined before
    module _ (old : List (K × W)) (gone : List (K × X)) where
      -- the entries seen, by whether the key is among those so far
      abbrev stopped_at : Bool → List (K × W)
      stopped_at b = combined eq made old (gone ++ cond b ((k, x) ∷ []) [])

      stopped_is : (o : Option V) → o ≡ lookup (eq k) es
          → map (λ e. (e.0, f e.1)) es ≡ combined eq made old gone
          → stopped_at (is_some o) ≡ stopped_at (is_some (lookup (eq k) (combined eq made old gone)))
      stopped_is o found so_far =
          ap stopped_at (ap is_some found ∙ sym (is_some-map_values f (eq k) es)
          ∙ ap (λ zs. is_some (lookup (eq k) zs)) so_far)

      pub combined-stopped : (v w : V) → Some v ≡ lookup (eq k) es → f w ≡ made (Some (f v)) x
          → map (λ e. (e.0, f e.1)) es ≡ combined eq made old gone
          → map (λ e. (e.0, f e.1)) (set_value (eq k) es w)
          ≡ combined eq made old
          (gone ++ cond (is_some (lookup (eq k) (combined eq made old gone))) ((k, x) ∷ []) [])
      combined-stopped v w found is so_far =
          combined-written v w found is ∙ ap (λ zs. combined eq made zs ((k, x) ∷ [])) so_far
          ∙ sym (fold-append _ old gone ((k, x) ∷ [])) ∙ stopped_is (Some v) found so_far

      pub combined-not_added : None ≡ lookup (eq k) es
          → map (λ e. (e.0, f e.1)) es ≡ combined eq made old gone
          → map (λ e. (e.0, f e.1)) es
          ≡ combined eq made old
          (gone ++ cond (is_some (lookup (eq k) (combined eq made old gone))) ((k, x) ∷ []) [])
      combined-not_added none so_far =
          so_far ∙ ap (combined eq made old) (sym (append-nil gone)) ∙ stopped_is None none so_far

module _ {K V : Type 0} (eq : K → K → Bool) (laws : IsEquivalence eq) where
  -- goal: `lookup` after a replace of each pair in order, if no two of the pairs have equal keys
  pub lookup-replaced_each : (q : K) (es pairs : List (K × V)) → IsEntries eq es → IsEntries eq pairs
      → lookup (eq q) (fold (λ zs p. put eq zs p.0 p.1 (place_or_end eq zs p.0)) es pairs)
      ≡ option_or (lookup (eq q) pairs) (lookup (eq q) es)
  lookup-replaced_each q es pairs d e =
      lookup-combined eq (λ o x. x) laws q es pairs d e ∙ by (lookup (eq q) pairs)
    where
      by : (o : Option V) → option_map_or Some o (lookup (eq q) es) ≡ option_or o (lookup (eq q) es)
      by None = refl
      by (Some x) = refl
