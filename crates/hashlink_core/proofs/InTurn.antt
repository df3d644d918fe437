-- Items that are inserted in turn.
use Rattle.hashlink_core.proofs.Names.{◌≡◌, ℕ, ◌+◌, ◌-◌, ◌^◌, List, [], ◌∷◌, ◌++◌, length, map, min, Result}
use Rattle.hashlink_core.proofs.Names.{Ok, Err, refl, ap, ◌∙◌, arith, map-append, AcceptsAll, StopsAt}
use Rattle.std.proofs.Common.{length-append, append_assoc}
use Rattle.hashlink_model.proofs.InTurn.{accepts_in_parts}

module _ {State Item A : Type 0} (step : State → State → Item → Result A Item → Type 0) where
  -- one more item was accepted
  pub accepts_another : (a b c : State) (xs : List Item) (x : Item) (r : A) → AcceptsAll step a xs b
      → step b c x (Ok r)
      → AcceptsAll step a (xs ++ x ∷ []) c
  accepts_another a b c xs x r s t = accepts_in_parts step a b c xs (x ∷ []) s (c, r, t, refl)

  -- the item after the accepted ones was refused
  pub stops_after : (a b c : State) (xs : List Item) (x back : Item) (taken : ℕ) → AcceptsAll step a xs b
      → taken ≡ min (length xs) (2 ^ 64 - 1)
      → step b c x (Err back)
      → StopsAt step a (xs ++ x ∷ []) c taken back []
  stops_after a b c xs x back taken s n t = record {
    before = xs;
    item = x;
    is = refl;
    between = b;
    accepted = s;
    refused = t;
    count = n;
  }

  -- the same for a longer list, whose rest was not read
  pub stops_before : (a c : State) (xs left : List Item) (taken : ℕ) (back : Item)
      → StopsAt step a xs c taken back []
      → StopsAt step a (xs ++ left) c taken back left
  stops_before a c xs left taken back s = record {
    before = s.before;
    item = s.item;
    is = ap (λ ys. ys ++ left) s.is ∙ append_assoc s.before (s.item ∷ []) left;
    between = s.between;
    accepted = s.accepted;
    refused = s.refused;
    count = s.count;
  }

-- the number of accepted items after one more, up to the greatest `u64`
pub counts_another : {X : Type 0} (xs : List X) (x : X) (taken : ℕ) → taken ≡ min (length xs) (2 ^ 64 - 1)
    → min (taken + 1) (2 ^ 64 - 1) ≡ min (length (xs ++ x ∷ [])) (2 ^ 64 - 1)
counts_another xs x taken n = let long = length-append xs (x ∷ []) in omega arith

pub mapped_another : {A B : Type 0} (f : A → B) (xs : List A) (x : A) → map f (xs ++ x ∷ [])
    ≡ map f xs ++ f x ∷ []
mapped_another f xs x = map-append f xs (x ∷ [])
