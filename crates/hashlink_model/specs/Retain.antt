-- Retains. T f k v b w g states that a call of the closure f on the key k and the value v may return b, leave
-- the value w, and leave the closure as g.
use Rattle.std.specs.{Prelude.{◌≡◌, Bool, List, [], ◌∷◌, cond, IsPermutation}, List.filter_map}
use Rattle.std.specs.Map.{lookup_entry}
use Rattle.hashlink_model.specs.{MapState.MapState, Steps.KeepsOnly}

-- the pairs `kept`, in the order that their keys have in es
abbrev pub in_order_of : {K V : Type 0} → (K → K → Bool) → List (K × V) → List (K × V) → List (K × V)
in_order_of eq es kept = filter_map (λ e. lookup_entry (eq e.0) kept) es

module _ {F K V : Type 0} (T : F → K → V → Bool → V → F → Type 0) where
  -- f was called once on each entry, in the list's order, and left as g; `kept` are the entries for which it
  -- returned true, with the values that it left
  abbrev pub KeepsInOrder : F → List (K × V) → List (K × V) → F → Type 0
  KeepsInOrder f [] kept g = (kept ≡ []) × (g ≡ f)
  KeepsInOrder f (e ∷ es) kept g =
      (b : Bool) × (w : V) × (f' : F) × (rest : List (K × V))
      × T f e.0 e.1 b w f' × KeepsInOrder f' es rest g × (kept ≡ cond b ((e.0, w) ∷ rest) rest)

  -- the same if f was called in some order: the entries kept are in the list's own order
  pub record KeepsInSomeOrder (eq : K → K → Bool) (f : F) (es new : List (K × V)) (g : F) : Type 0 where
    pub order : List (K × V)
    pub kept : List (K × V)
    pub each_once : IsPermutation es order
    pub called : KeepsInOrder f order kept g
    pub entries : new ≡ in_order_of eq es kept

  -- the steps of the two retains: the entries kept, by the calls of f, which ends as g. The node of each
  -- removed entry is free
  pub record RetainsInOrder {S : Type 0} (f : F) (old new : MapState K V S) (g : F) : Type 0 where
    pub kept : List (K × V)
    pub calls : KeepsInOrder f old.entries kept g
    pub keeps : KeepsOnly old new kept

  pub record Retains {S : Type 0} (eq : K → K → Bool) (f : F) (old new : MapState K V S)
      (g : F) : Type 0 where
    pub kept : List (K × V)
    pub calls : KeepsInSomeOrder eq f old.entries kept g
    pub keeps : KeepsOnly old new kept
