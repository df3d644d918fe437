-- What an iterator that gives its list away has returned.
use Rattle.hashlink_map.proofs.Names.{◌≡◌, List, [], ◌∷◌, ◌++◌, None, ap, ◌∙◌, append-nil, Yields, YieldsThen}
use Rattle.hashlink_map.proofs.Names.{TakesFirst}

module _ {A : Type 0} where
  pub taken_front : (s xs t : List A) → Yields (TakesFirst (λ p. p)) s xs t → s ≡ xs ++ t
  taken_front s [] t y = y
  taken_front s (x ∷ xs) t y = y.1 ∙ ap (λ ys. x ∷ ys) (taken_front y.0 xs t y.2)

  pub taken_all : (s xs u : List A) → YieldsThen (TakesFirst (λ p. p)) s xs None u → s ≡ xs
  taken_all s xs u y = taken_front s xs y.0 y.1 ∙ ap (λ ys. xs ++ ys) y.2.0 ∙ append-nil xs
