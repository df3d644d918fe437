-- Two windows of two lists, which may overlap, cover them.
use Rattle.std.proofs.Common.{◌≡◌, ℕ, ◌-◌, ◌*◌, ◌≤◌, Bool, true, false, List, ◌++◌, length, take, drop, refl}
use Rattle.std.proofs.Common.{sym, ap, ap₂, ◌∙◌, arith, length-take-le, ◌<◌, Option, None, Some, Bor}
use Rattle.std.specs.{Array.{IsFirstChunk, IsWholeChunk}, Option.{MatchOption, option_eq}, Str.bytes_eq}
use Rattle.std.{proofs.lemmas.List.{take-append-drop, take-append-le}, specs.Cmp.Lexicographic.bytes_decides}

module _ {X : Type 0} where
  take-within : (xs : List X) (n m : ℕ) → n ≤ length xs → m ≤ n → take m xs ≡ take m (take n xs)
  take-within xs n m le within =
      ap (take m) (sym (take-append-drop n xs))
      ∙ take-append-le m (take n xs) (drop n xs) (omega (arith, within, length-take-le n xs le))

  -- the first n elements of both lists are the same, and so are those after the first m
  covered : (xs ys : List X) (n m : ℕ) → n ≤ length xs → n ≤ length ys → m ≤ n → take n xs ≡ take n ys
      → drop m xs ≡ drop m ys → xs ≡ ys
  covered xs ys n m le le' within first last =
      sym (take-append-drop m xs)
      ∙ ap₂ (λ a b. a ++ b)
      (take-within xs n m le within ∙ ap (take m) first ∙ sym (take-within ys n m le' within)) last
      ∙ take-append-drop m ys

same-answer : (a b : Bool) → (a ≡ true → b ≡ true) → (b ≡ true → a ≡ true) → a ≡ b
same-answer true true on back = refl
same-answer true false on back = sym (on refl)
same-answer false true on back = back refl
same-answer false false on back = refl

-- goal: if the first n bytes of two texts of the same length are equal, the last n decide
pub last_decides : (xs ys : List ℕ) (n : ℕ) → length xs ≡ length ys → n ≤ length xs → length xs ≤ 2 * n
    → bytes_eq (take n xs) (take n ys) ≡ true
    → bytes_eq (drop (length xs - n) xs) (drop (length ys - n) ys) ≡ bytes_eq xs ys
last_decides xs ys n long le covers first =
    let m = length xs - n in
    let same : length ys - n ≡ m = omega (arith, long) in
    same-answer _ _
    (λ last.
    (bytes_decides xs ys).1 (covered xs ys n m le (omega (arith, long, le)) (omega (arith, covers))
    ((bytes_decides (take n xs) (take n ys)).0 first)
    ((bytes_decides (drop m xs) (drop (length ys - n) ys)).0 last ∙ ap (λ k. drop k ys) same)))
    (λ all.
    (bytes_decides (drop m xs) (drop (length ys - n) ys)).1
    (ap₂ (λ k l. drop k l) (sym same) ((bytes_decides xs ys).0 all)))

-- what a comparison of the first n bytes tells, and one of the last n
module _ (xs ys : List ℕ) (n : ℕ) (long : length xs ≡ length ys) (le : n ≤ length xs) where
  abbrev same_bytes : Bor (List ℕ) → Bor (List ℕ) → Bool
  same_bytes x y = bytes_eq x.now y.now

  abbrev IsFirst : List ℕ → Option (Bor (List ℕ)) → Type 0
  IsFirst zs o = MatchOption o (length zs < n) (λ y. IsFirstChunk zs y.now n)

  abbrev IsLast : List ℕ → Option (Bor (List ℕ)) → Type 0
  IsLast zs o =
      MatchOption o (length zs < n) (λ y. (n ≤ length zs) × IsWholeChunk (drop (length zs - n) zs) y.now n)

  pub first_told : (f g : Option (Bor (List ℕ))) → IsFirst xs f → IsFirst ys g
      → option_eq same_bytes f g ≡ bytes_eq (take n xs) (take n ys)
  first_told None g a b = absurd (omega (arith, a, le))
  first_told (Some f) None a b = absurd (omega (arith, b, long, le))
  first_told (Some f) (Some g) a b = ap₂ bytes_eq a.same b.same

  pub last_told : (f g : Option (Bor (List ℕ))) → IsLast xs f → IsLast ys g
      → option_eq same_bytes f g
      ≡ bytes_eq (drop (length xs - n) xs) (drop (length ys - n) ys)
  last_told None g a b = absurd (omega (arith, a, le))
  last_told (Some f) None a b = absurd (omega (arith, b, long, le))
  last_told (Some f) (Some g) a b = ap₂ bytes_eq a.1.same b.1.same
