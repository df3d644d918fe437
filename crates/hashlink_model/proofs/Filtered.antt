-- A retain by a predicate, as a step of a map: the entries left are a filter of the old ones.
use Rattle.hashlink_model.proofs.Names.{◌≡◌, Bool, filter, subst, MapState, KeepsOnly}
use Rattle.hashlink_model.{specs.Retain.RetainsInOrder, proofs.Retains.keeps_in_order_is_filter}

pub retained_by_predicate : {F K V S : Type 0} (T : F → K → V → Bool → V → F → Type 0) (p : K × V → Bool)
    → ((f : F) (k : K) (v : V) (b : Bool) (w : V) (g : F) → T f k v b w g → (b ≡ p (k, v)) × (w ≡ v))
    → (f : F) (old new : MapState K V S) (g : F) → RetainsInOrder T f old new g
    → KeepsOnly old new (filter p old.entries)
retained_by_predicate T p says f old new g r =
    subst (KeepsOnly old new) (keeps_in_order_is_filter T p says f old.entries r.kept g r.calls) r.keeps
