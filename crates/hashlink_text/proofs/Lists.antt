-- Lists of pairs and of replies, written from the front.
use Rattle.std.proofs.Common.{◌≡◌, ℕ, List, [], ◌∷◌, ◌++◌, append-nil, append_assoc, map, sym, ap, ◌∙◌}
use Rattle.std.specs.List.{flat_map, join_with_byte}

-- the items after the first, with a space before each
abbrev pub following_shown : {X : Type 0} → (X → List ℕ) → List X → List ℕ
following_shown show xs = flat_map (λ x. 32 ∷ show x) xs

pub joined-cons : {X : Type 0} (show : X → List ℕ) (x : X) (xs : List X)
    → join_with_byte 32 (map show (x ∷ xs)) ≡ show x ++ following_shown show xs
joined-cons show x [] = sym (append-nil (show x))
joined-cons show x (y ∷ ys) = ap (λ text. show x ++ 32 ∷ text) (joined-cons show y ys)

-- what is written after the first item
pub joined-first : {X : Type 0} (show : X → List ℕ) (old new : List ℕ) (x : X) (xs : List X)
    → new ≡ old ++ show x
    → new ++ following_shown show xs ≡ old ++ join_with_byte 32 (map show (x ∷ xs))
joined-first show old new x xs wrote =
    ap (λ w. w ++ following_shown show xs) wrote ∙ append_assoc old (show x) (following_shown show xs)
    ∙ ap (λ w. old ++ w) (sym (joined-cons show x xs))
