-- What a retain leaves whose closure captures.
use Rattle.std.proofs.Common.{◌≡◌, Bool, true, false, cond, List, [], ◌∷◌, refl, subst, ◌∙◌, filter, map}
use Rattle.std.proofs.lemmas.List.{map-id}
use Rattle.hashlink_model.specs.MapState.{MapState}
use Rattle.hashlink_model.specs.Retain.{KeepsInOrder, RetainsInOrder}
use Rattle.hashlink_model.specs.Steps.{KeepsOnly}

-- ---- a retain whose closure captures: `Holds` states what was captured, such as a time

module _ {F K V : Type 0} (T : F → K → V → Bool → V → F → Type 0) (Holds : F → Type 0) where
  module _ (passes : K × V → Bool) where
    -- a call returns whether the entry passes, and leaves `value` of it as its value. What holds still holds
    abbrev pub CallsLeave : (K × V → V) → Type 0
    CallsLeave value =
        (f : F) (k : K) (v : V) (b : Bool) (w : V) (g : F) → Holds f → T f k v b w g
        → (b ≡ passes (k, v)) × (w ≡ value (k, v)) × Holds g

    map-cond : {X Y : Type 0} (h : X → Y) (b : Bool) (x : X) (xs : List X)
        → cond b (h x ∷ map h xs) (map h xs) ≡ map h (cond b (x ∷ xs) xs)
    map-cond h true x xs = refl
    map-cond h false x xs = refl

    module _ (value : K × V → V) (call : CallsLeave value) where
      kept_writing : (f : F) (es kept : List (K × V)) (g : F) → Holds f → KeepsInOrder T f es kept g
          → kept ≡ map (λ e. (e.0, value e)) (filter passes es)
      kept_writing f [] kept g h r = r.0
      kept_writing f (e ∷ es) kept g h r =
          let c = call f e.0 e.1 r.0 r.1 r.2 h r.4 in
          let rest = kept_writing r.2 es r.3 g c.2 r.5 in
          r.6 ∙ (λ i. cond (c.0 i) ((e.0, c.1 i) ∷ rest i) (rest i))
          ∙ map-cond (λ x. (x.0, value x)) (passes e) e (filter passes es)

      -- goal: what a retain leaves if its closure returns `passes` and writes `value`. The step is
      -- `c.retain.ensures.retained.1` for a map, and its field `map` for a cache
      pub retained_writing : {S : Type 0} (f : F) → Holds f → (old new : MapState K V S) (g : F)
          → RetainsInOrder T f old new g
          → KeepsOnly old new (map (λ e. (e.0, value e)) (filter passes old.entries))
      retained_writing f h old new g r =
          subst (KeepsOnly old new) (kept_writing f old.entries r.kept g h r.calls) r.keeps

    -- goal: the same if the closure writes nothing
    pub retained_where : CallsLeave (λ e. e.1) → {S : Type 0} (f : F) → Holds f → (old new : MapState K V S)
        (g : F) → RetainsInOrder T f old new g
        → KeepsOnly old new (filter passes old.entries)
    retained_where call f h old new g r =
        subst (KeepsOnly old new) (map-id (filter passes old.entries))
        (retained_writing (λ e. e.1) call f h old new g r)
