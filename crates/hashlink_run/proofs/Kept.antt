-- A keep by one closure is also a keep by each relation that allows every result of that closure.
use Rattle.std.proofs.Common.{◌≡◌, Bool, Contains, List, [], ◌∷◌, arith, refl, subst, sym, filter}
use Rattle.std.specs.{List.FoldsTo, Map.Calls.{CallableOnEachPair, SomeCallAtPair}}
use Rattle.std.proofs.lemmas.List.Elements.{Contains-append_right}
use Rattle.hashlink_model.specs.{MapState.MapState, Retain.{KeepsInOrder, RetainsInOrder}, Steps.KeepsOnly}
use Rattle.hashlink_model.proofs.Filtered.{retained_by_predicate}
use Rattle.hashlink_run.specs.Keeps.{AskedAt, KeepsWhere}

module _ {F K V : Type 0} (T : F → K → V → Bool → V → F → Type 0) (Keeps : K → V → Bool → Type 0) (f : F)
    (asks : (k : K) (v : V) (b : Bool) (w : V) (g : F) → T f k v b w g → Keeps k v b
    × (w ≡ v) × (g ≡ f)) where
  kept-asked : (es kept : List (K × V)) (g : F) → KeepsInOrder T f es kept g
      → KeepsInOrder (AskedAt Keeps) tt es kept tt
  kept-asked [] kept g h = (h.0, refl)
  kept-asked (e ∷ es) kept g h =
      let asked = asks e.0 e.1 h.0 h.1 h.2 h.4 in
      let more = subst (λ f'. KeepsInOrder T f' es h.3 g) asked.2 h.5 in
      (h.0, h.1, tt, h.3, (asked.0, asked.1), kept-asked es h.3 g more, h.6)

  -- a retain by a closure that writes nothing and does not change
  pub retained-asked : {S : Type 0} (old new : MapState K V S) (g : F) → RetainsInOrder T f old new g
      → KeepsWhere Keeps old new
  retained-asked old new g r =
      record { kept = r.kept; calls = kept-asked old.entries r.kept g r.calls; keeps = r.keeps }

  -- so the closure does not change
  unmoved : (es : List (K × V)) (g : F) → FoldsTo (SomeCallAtPair T) f es g → g ≡ f
  unmoved [] g h = sym h
  unmoved (e ∷ es) g h =
      let same = (asks e.0 e.1 h.1.0 h.1.1 h.0 h.1.2).2 in
      unmoved es g (subst (λ f'. FoldsTo (SomeCallAtPair T) f' es g) same h.2)

  -- a closure that may be called on each entry now may be called on each one, in the state that the calls
  -- before left
  pub callable_on_each : (May : F → K → V → Type 0) (es : List (K × V))
      → ((pair : K × V) → Contains es pair → May f pair.0 pair.1) → CallableOnEachPair T May f es
  callable_on_each May es each = record {
    at = λ before after g k v is calls.
        let first : Contains ((k, v) ∷ after) (k, v) = (0, omega arith, refl) in
        let here = Contains-append_right before ((k, v) ∷ after) (k, v) first in
        subst (λ f'. May f' k v) (sym (unmoved before g calls))
        (each (k, v) (subst (λ xs. Contains xs (k, v)) (sym is) here));
  }

module _ {K V : Type 0} (Keeps Also : K → V → Bool → Type 0)
    (also : (k : K) (v : V) (b : Bool) → Keeps k v b → Also k v b) where
  pub keeps_where-wider : {S : Type 0} (old new : MapState K V S) → KeepsWhere Keeps old new
      → KeepsWhere Also old new
  keeps_where-wider old new r =
      retained-asked (AskedAt Keeps) Also tt (λ k v b w g s. (also k v b s.0, s.1, refl)) old new tt r

-- a predicate leaves a filter
pub kept_by_predicate : {K V S : Type 0} (Keeps : K → V → Bool → Type 0) (p : K × V → Bool)
    → ((k : K) (v : V) (b : Bool) → Keeps k v b → b ≡ p (k, v))
    → (old new : MapState K V S) → KeepsWhere Keeps old new → KeepsOnly old new (filter p old.entries)
kept_by_predicate Keeps p says old new r =
    retained_by_predicate (AskedAt Keeps) p (λ f k v b w g s. (says k v b s.0, s.1)) tt old new tt r
