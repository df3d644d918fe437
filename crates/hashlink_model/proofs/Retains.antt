-- The entries after a retain: in the list's own order, with keys pairwise unequal, and a filter if the
-- closure is a predicate.
use Rattle.hashlink_model.proofs.Names.{recursion_from_All, keys_of, ◌≡◌, Bool, true, false, cond, List, []}
use Rattle.hashlink_model.proofs.Names.{◌∷◌, ◌++◌, Option, None, Some, filter, refl, sym, ap, ap₂, ◌∙◌, subst}
use Rattle.hashlink_model.proofs.Names.{arith, IsEquivalence, AllByRecursion, cons_option, lookup_entry}
use Rattle.hashlink_model.proofs.Distinct.{IsEntries-cons, IsEntries-head, IsEntries-tail, each-append}
use Rattle.hashlink_model.proofs.{Names.{NonePasses, none-some, IsEntries}, Places.split_at}
use Rattle.hashlink_model.specs.Retain.{KeepsInSomeOrder, KeepsInOrder, in_order_of}
use Rattle.hashlink_model.proofs.Distinct.{each-left, each-right, each-weaker, none_equal, none_others}
use Rattle.hashlink_model.proofs.Splits.{lookup_entry-none, lookup_entry-here}
use Rattle.std.proofs.{lemmas.Map.Keys.IsDistinct-IsPermutation, Common.Contains}
use Rattle.std.proofs.lemmas.{List.Elements.{All-contains_itself, filter-append}, Option.slice_get-get_or}
use Rattle.std.proofs.lemmas.List.Sorted.{IsPermutation-map, IsPermutation-refl, Contains-permutation}

module _ {F K V : Type 0} (T : F → K → V → Bool → V → F → Type 0) where
  pub keeps_in_order_is_filter : (p : K × V → Bool)
      → ((g : F) (k : K) (v : V) (b : Bool) (w : V) (h : F) → T g k v b w h → (b ≡ p (k, v)) × (w ≡ v))
      → (f : F) (es new : List (K × V)) (h : F) → KeepsInOrder T f es new h → new ≡ filter p es
  keeps_in_order_is_filter p says f [] new h r = r.0
  keeps_in_order_is_filter p says f (e ∷ es) new h r =
      let call = says f e.0 e.1 r.0 r.1 r.2 r.4 in
      let rest = keeps_in_order_is_filter p says r.2 es r.3 h r.5 in
      r.6 ∙ (λ i. cond (call.0 i) ((e.0, call.1 i) ∷ rest i) (rest i))

module _ {K V : Type 0} where
  pub found_passes : (test : K → Bool) (es : List (K × V)) (f : K × V) → lookup_entry test es ≡ Some f
      → test f.0 ≡ true
  found_passes test [] f l = absurd (none-some f l)
  found_passes test (e ∷ es) f l = grind (arith, found_passes test es f, l)

  pub none_filtered : (test : K → Bool) (p : K × V → Bool) (es : List (K × V)) → NonePasses test es
      → NonePasses test (filter p es)
  none_filtered test p [] n = tt
  none_filtered test p (e ∷ es) n = grind (arith, n.0, none_filtered test p es n.1)

module _ {K V : Type 0} (eq : K → K → Bool) (laws : IsEquivalence eq) where
  -- ---- keys stay pairwise unequal

  apart_by : (q : K) (e : K × V) (o : Option (K × V)) (zs : List (K × V)) → eq q e.0 ≡ false
      → ((f : K × V) → o ≡ Some f → eq e.0 f.0 ≡ true) → NonePasses (eq q) zs
      → NonePasses (eq q) (cons_option o zs)
  apart_by q e None zs a t n = n
  apart_by q e (Some f) zs a t n =
      (laws.symm q f.0 ∙ sym (laws.congr e.0 f.0 q (t f refl)) ∙ laws.symm e.0 q ∙ a, n)

  pub none_in_order : (q : K) (es kept : List (K × V)) → NonePasses (eq q) es
      → NonePasses (eq q) (in_order_of eq es kept)
  none_in_order q [] kept n = tt
  none_in_order q (e ∷ es) kept n =
      apart_by q e (lookup_entry (eq e.0) kept) (in_order_of eq es kept) n.0 (found_passes (eq e.0) kept)
      (none_in_order q es kept n.1)

  pub IsEntries-in_order_of : (es kept : List (K × V)) → IsEntries eq es
      → IsEntries eq (in_order_of eq es kept)
  IsEntries-in_order_of [] kept d = d
  IsEntries-in_order_of (e ∷ es) kept d =
      let zs = in_order_of eq es kept in
      let rest = IsEntries-in_order_of es kept (IsEntries-tail eq e es d) in
      let none = none_in_order e.0 es kept (IsEntries-head eq e es d) in
      let more : (f : K × V) → lookup_entry (eq e.0) kept ≡ Some f → IsEntries eq (f ∷ zs)
      = λ f l. IsEntries-cons eq f zs
      (none_equal eq laws e.0 f.0 zs (found_passes (eq e.0) kept f l) none) rest in
      grind (arith, rest, more)

  -- ---- a predicate

  lookup_filtered : (p : K × V → Bool) (es : List (K × V)) (e : K × V) → IsEntries eq es → Contains es e
      → lookup_entry (eq e.0) (filter p es) ≡ cond (p e) (Some e) None
  lookup_filtered p es e d c =
      let s = split_at es c.0 e (slice_get-get_or es c.0 e c.1 ∙ ap Some c.2) in
      let apart = none_others eq laws s.0 e s.1 (subst (IsEntries eq) s.2 d) in
      let us = none_filtered (eq e.0) p s.0 (each-left _ s.0 s.1 apart) in
      let vs = none_filtered (eq e.0) p s.1 (each-right _ s.0 s.1 apart) in
      let here = lookup_entry-here (eq e.0) e (filter p s.1) (laws.refl e.0) (filter p s.0) us in
      let none = lookup_entry-none (eq e.0) (filter p s.0 ++ filter p s.1) (each-append _ _ _ us vs) in
      ap (λ zs. lookup_entry (eq e.0) (filter p zs)) s.2
      ∙ ap (lookup_entry (eq e.0)) (filter-append p s.0 (e ∷ s.1)) ∙ grind (arith, here, none)

  in_order_by : (p : K × V → Bool) (kept es : List (K × V))
      → AllByRecursion (λ e. lookup_entry (eq e.0) kept ≡ cond (p e) (Some e) None) es
      → in_order_of eq es kept ≡ filter p es
  in_order_by p kept [] a = refl
  in_order_by p kept (e ∷ es) a = grind (arith, a.0, in_order_by p kept es a.1)

  pub keeps_is_filter : {F : Type 0} (T : F → K → V → Bool → V → F → Type 0) (p : K × V → Bool)
      → ((g : F) (k : K) (v : V) (b : Bool) (w : V) (h : F) → T g k v b w h → (b ≡ p (k, v)) × (w ≡ v))
      → (f : F) (es new : List (K × V)) (h : F) → IsEntries eq es → KeepsInSomeOrder T eq f es new h
      → new ≡ filter p es
  keeps_is_filter T p says f es new h d r =
      let apart = IsDistinct-IsPermutation eq laws.symm (keys_of es) (keys_of r.order)
      (IsPermutation-map (λ x. x.0) es r.order r.each_once) d in
      r.entries ∙ ap (in_order_of eq es) (keeps_in_order_is_filter T p says f r.order r.kept h r.called)
      ∙ in_order_by p (filter p r.order) es
      (each-weaker _ _
      (λ x c. lookup_filtered p r.order x apart (Contains-permutation es r.order x r.each_once c)) es
      (recursion_from_All (Contains es) es (All-contains_itself es)))

module _ {F K V : Type 0} (T : F → K → V → Bool → V → F → Type 0) where
  -- no key is added
  pub none_kept : (test : K → Bool) (f : F) (es new : List (K × V)) (g : F) → KeepsInOrder T f es new g
      → NonePasses test es → NonePasses test new
  none_kept test f [] new g r n = rw r.0 tt
  none_kept test f (e ∷ es) new g r n = rw r.6 (grind (arith, n.0, none_kept test r.2 es r.3 g r.5 n.1))

  module _ (eq : K → K → Bool) (laws : IsEquivalence eq) where
    pub IsEntries-keeps_in_order : (f : F) (es new : List (K × V)) (g : F) → IsEntries eq es
        → KeepsInOrder T f es new g → IsEntries eq new
    IsEntries-keeps_in_order f [] new g d r = rw r.0 d
    IsEntries-keeps_in_order f (e ∷ es) new g d r =
        let rest = IsEntries-keeps_in_order r.2 es r.3 g (IsEntries-tail eq e es d) r.5 in
        let none = none_kept (eq e.0) r.2 es r.3 g r.5 (IsEntries-head eq e es d) in
        rw r.6 (grind (arith, rest, IsEntries-cons eq (e.0, r.1) r.3 none rest))

    -- ---- the list's own order is one of the orders

    skip : (x : K × V) (es kept : List (K × V)) → AllByRecursion (λ e. eq e.0 x.0 ≡ false) es
        → in_order_of eq es (x ∷ kept) ≡ in_order_of eq es kept
    skip x [] kept a = refl
    skip x (e ∷ es) kept a =
        ap₂ cons_option (ap (λ b. cond b (Some x) (lookup_entry (eq e.0) kept)) a.0) (skip x es kept a.1)

    pub in_own_order : (f : F) (es new : List (K × V)) (g : F) → IsEntries eq es → KeepsInOrder T f es new g
        → in_order_of eq es new ≡ new
    in_own_order f [] new g d r = sym r.0
    in_own_order f (e ∷ es) new g d r =
        let n = IsEntries-head eq e es d in
        let m = none_kept (eq e.0) r.2 es r.3 g r.5 n in
        let skipped = skip (e.0, r.1) es r.3 (each-weaker _ _ (λ x a. laws.symm x.0 e.0 ∙ a) es n) in
        let rest = in_own_order r.2 es r.3 g (IsEntries-tail eq e es d) r.5 in
        subst (λ zs. in_order_of eq (e ∷ es) zs ≡ zs) (sym r.6)
        (grind (arith, skipped, lookup_entry-none (eq e.0) r.3 m, rest, laws.refl e.0))

-- ---- the closure after the calls

module _ {F K V : Type 0} (T : F → K → V → Bool → V → F → Type 0) (Stays : F → Type 0)
    (keeps : (f : F) (k : K) (v : V) (b : Bool) (w : V) (g : F) → T f k v b w g → Stays f → Stays g) where
  pub stays_in_order : (f : F) (es kept : List (K × V)) (g : F) → KeepsInOrder T f es kept g
      → Stays f → Stays g
  stays_in_order f [] kept g r s = subst Stays (sym r.1) s
  stays_in_order f (e ∷ es) kept g r s = stays_in_order r.2 es r.3 g r.5 (keeps f e.0 e.1 r.0 r.1 r.2 r.4 s)

  pub stays_in_some_order : (eq : K → K → Bool) (f : F) (es new : List (K × V)) (g : F)
      → KeepsInSomeOrder T eq f es new g → Stays f → Stays g
  stays_in_some_order eq f es new g r s = stays_in_order f r.order r.kept g r.called s

-- if the results of each call are determined, so are the entries kept and the closure after the calls
module _ {F K V : Type 0} (T : F → K → V → Bool → V → F → Type 0) (answer : F → K → V → Bool)
    (written : F → K → V → V) (next : F → K → V → F) where
  abbrev pub kept_by : F → List (K × V) → List (K × V)
  kept_by f [] = []
  kept_by f (e ∷ es) =
      cond (answer f e.0 e.1) ((e.0, written f e.0 e.1) ∷ kept_by (next f e.0 e.1) es)
      (kept_by (next f e.0 e.1) es)

  abbrev pub ends_by : F → List (K × V) → F
  ends_by f [] = f
  ends_by f (e ∷ es) = ends_by (next f e.0 e.1) es

  pub
      determined : ((f : F) (k : K) (v : V) (b : Bool) (w : V) (g : F) → T f k v b w g
      → (b ≡ answer f k v) × (w ≡ written f k v) × (g ≡ next f k v))
      → (f : F) (es kept : List (K × V)) (g : F) → KeepsInOrder T f es kept g
      → (kept ≡ kept_by f es) × (g ≡ ends_by f es)
  determined says f [] kept g r = r
  determined says f (e ∷ es) kept g r =
      let call = says f e.0 e.1 r.0 r.1 r.2 r.4 in
      let rest = determined says r.2 es r.3 g r.5 in
      let same : r.3 ≡ kept_by (next f e.0 e.1) es = rest.0 ∙ ap (λ f'. kept_by f' es) call.2 in (
        r.6 ∙ (λ i. cond (call.0 i) ((e.0, call.1 i) ∷ same i) (same i)),
        rest.1 ∙ ap (λ f'. ends_by f' es) call.2,
      )

pub ruleset own_order = (in_own_order, IsPermutation-refl)

pub ruleset unequal = (IsEntries-in_order_of, IsEntries-keeps_in_order)

pub ruleset filters = (keeps_is_filter, keeps_in_order_is_filter)

pub ruleset retains = (own_order, unequal, filters)
