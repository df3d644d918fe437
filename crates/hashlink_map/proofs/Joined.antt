-- Entries in two lists that share no key, such as those of two maps or caches.
use Rattle.std.proofs.Common.{◌≡◌, Bool, true, false, cond, List, [], ◌∷◌, ◌++◌, Option, None, Some, refl}
use Rattle.std.proofs.Common.{sym, ap, ◌∙◌, arith, true≢false}
use Rattle.std.specs.Cmp.{IsEquivalence}
use Rattle.std.specs.Map.{lookup, lookup_entry}
use Rattle.std.specs.Option.{IfSome, option_map, option_or, option_to_list}
use Rattle.std.specs.Prelude.{IsSome}
use Rattle.hashlink_map.proofs.Listed.{lookup-append, lookup_entry-passes}
use Rattle.hashlink_map.specs.Joined.{AreParts, ShareNoKey}
use Rattle.hashlink_model.proofs.Distinct.{IsEntries-head, IsEntries-tail, each-right, none_equal}
use Rattle.hashlink_model.proofs.Finds.{lookup-equal, lookup_is}
use Rattle.hashlink_model.proofs.Splits.{lookup-none}
use Rattle.hashlink_model.specs.Entries.{IsEntries}
use Rattle.hashlink_model.specs.Lookups.{EvictsOthers}

module _ {K V : Type 0} {eq : K → K → Bool} (laws : IsEquivalence eq) where
  -- goal: two lists share no key if no two keys are equal in one behind the other
  pub apart-from_distinct : (xs ys : List (K × V)) → IsEntries eq (xs ++ ys) → ShareNoKey eq xs ys
  apart-from_distinct [] ys d q there = absurd (true≢false (sym there))
  apart-from_distinct (x ∷ xs) ys d q there =
      by (eq q x.0) refl (apart-from_distinct xs ys (IsEntries-tail eq x (xs ++ ys) d) q) there
    where
      by : (b : Bool) → eq q x.0 ≡ b → (IsSome (lookup (eq q) xs) → lookup (eq q) ys ≡ None)
          → IsSome (cond b (Some x.1) (lookup (eq q) xs))
          → lookup (eq q) ys ≡ None
      by true t further h =
          let others = none_equal eq laws x.0 q (xs ++ ys) (laws.symm x.0 q ∙ t)
          (IsEntries-head eq x (xs ++ ys) d) in
          lookup-none (eq q) ys (each-right _ xs ys others)
      by false t further h = further h

  -- goal: two lists still share no key once a value was written in the second
  pub apart-written : (xs ys ys1 : List (K × V)) (k : K) (w : V) → ShareNoKey eq xs ys
      → IsSome (lookup (eq k) ys)
      → ((q : K) → lookup (eq q) ys1 ≡ cond (eq k q) (Some w) (lookup (eq q) ys))
      → ShareNoKey eq xs ys1
  apart-written xs ys ys1 k w apart there finds q h =
      grind (arith, h, there, apart k, apart q, finds q, lookup-equal eq laws k q xs)

  -- goal: the same after an insert into the container that has the first list, which may evict entries
  pub apart-inserted : (xs ys xs1 : List (K × V)) (k : K) → ShareNoKey eq xs ys → lookup (eq k) ys ≡ None
      → EvictsOthers eq xs xs1 k
      → ShareNoKey eq xs1 ys
  apart-inserted xs ys xs1 k apart none others q h =
      grind (arith, h, apart q, others.0 q, none, lookup-equal eq laws k q ys)

  -- goal: what a key finds, by the key of the entry that it found
  pub lookup-stored : (es zs : List (K × V)) (k : K) (e : K × V) → Some e ≡ lookup_entry (eq k) es
      → lookup (eq k) zs ≡ lookup (eq e.0) zs
  lookup-stored es zs k e found =
      lookup-equal eq laws k e.0 zs (lookup_entry-passes (eq k) es e (sym found))

  -- ---- the key k finds the entry e in xs, of which `left` is left. It goes to ys0, in which each key finds
  -- what it finds in ys. This becomes ys1, and the entry that leaves for e, if any, goes behind `left`

  module _ (xs ys left ys0 ys1 : List (K × V)) (out : Option (K × V)) (k : K) (e : K × V) where
    pub record Exchanged : Type 0 where
      pub absent : IfSome out (λ x. lookup (eq x.0) left ≡ None)
      pub apart : ShareNoKey eq (left ++ option_to_list out) ys1
      pub finds : (q : K)
          → lookup (eq q) ((left ++ option_to_list out) ++ ys1) ≡ lookup (eq q) (xs ++ ys)

    -- goal: that both lists share no key again, and that each key finds in them what it found
    pub exchanged : Some e ≡ lookup_entry (eq k) xs
        → ((q : K) → lookup (eq q) left ≡ cond (eq k q) None (lookup (eq q) xs))
        → ((q : K) → lookup (eq q) ys0 ≡ lookup (eq q) ys) → ShareNoKey eq xs ys
        → AreParts eq (option_to_list out) ys1 (e ∷ ys0)
        → Exchanged
    exchanged found others same apart parts = record {
      absent = absent out (λ q h. grind (arith, h, others q, apart q, parts.0 q, joins q, alike q, here q));
      apart = λ q h. (let h = rw (lookup-append (eq q) left (option_to_list out)) at h in
          grind (arith, h, others q, apart q, parts.0 q, joins q, alike q, here q));
      finds = λ q. rw (
        lookup-append (eq q) (left ++ option_to_list out) ys1,
        lookup-append (eq q) left (option_to_list out),
        lookup-append (eq q) xs ys,
      )
          (grind (arith, others q, apart q, parts.0 q, joins q, alike q, here q));
    }
      where
        there : lookup (eq k) xs ≡ Some e.1
        there = lookup_is (eq k) xs ∙ ap (option_map (λ x. x.1)) (sym found)

        passes : eq k e.0 ≡ true
        passes = lookup_entry-passes (eq k) xs e (sym found)

        alike : (q : K) → eq q e.0 ≡ eq k q
        alike q = laws.symm q e.0 ∙ sym (laws.congr k e.0 q passes)

        here : (q : K) → eq k q ≡ true → lookup (eq q) xs ≡ Some e.1
        here q t = sym (lookup-equal eq laws k q xs t) ∙ there

        joins : (q : K) → option_or (lookup (eq q) (option_to_list out)) (lookup (eq q) ys1)
            ≡ cond (eq q e.0) (Some e.1) (lookup (eq q) ys)
        joins q = sym (lookup-append (eq q) (option_to_list out) ys1) ∙ parts.1 q
            ∙ ap (cond (eq q e.0) (Some e.1)) (same q)

        absent : (o : Option (K × V)) → ShareNoKey eq (option_to_list o) left
            → IfSome o (λ x. lookup (eq x.0) left ≡ None)
        absent None none = tt
        absent (Some x) none = none x.0 (rw (laws.refl x.0) refl)
