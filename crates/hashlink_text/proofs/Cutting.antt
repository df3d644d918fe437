-- The part that is read from the front of a text is its first part, such as a word or a line.
use Rattle.std.proofs.Common.{◌≡◌, ℕ, ◌+◌, ◌<◌, Bool, true, false, nat_eq, nat_lt, List, [], ◌∷◌, length}
use Rattle.std.proofs.Common.{take, drop, Option, None, Some, unwrap_or, refl, sym, ap, ◌∙◌, ⊎_elim, arith}
use Rattle.std.proofs.lemmas.List.Splits.{slice_split_none, slice_split_first, length-slice_split}
use Rattle.std.{proofs.Common.Bor, specs.List.{slice_split, position, position_or_len, join_with_byte}}
use Rattle.std.proofs.lemmas.{Bool.{cases_Bool, ltb-true, ltb-false}, Option.cond_some}
use Rattle.std.proofs.lemmas.List.{Splits.join_with_byte-slice_split, Sums.fails_before_first}
use Rattle.hashlink_text.specs.{Lines.{parts_of, without_empty_end, lines_of}, Cuts.parts_left}

module _ {X : Type 0} (p : X → Bool) where
  pub slice_split-position_none : (xs : List X) → position p xs ≡ None → slice_split p xs ≡ xs ∷ []
  slice_split-position_none xs e =
      ⊎_elim (λ (t : nat_lt (position_or_len p xs) (length xs) ≡ true).
      absurd (let q : Some (position_or_len p xs) ≡ None = rw t at e in cc))
      (λ (f : nat_lt (position_or_len p xs) (length xs) ≡ false).
      slice_split_none p xs (λ k d at. fails_before_first p xs k d (omega (arith, ltb-false _ _ f))))
      (cases_Bool (nat_lt (position_or_len p xs) (length xs)))

  pub slice_split-position_some : (xs : List X) (at : ℕ) → position p xs ≡ Some at
      → slice_split p xs ≡ take at xs ∷ slice_split p (drop (at + 1) xs)
  slice_split-position_some [] at e = cc
  slice_split-position_some (x ∷ xs) at e =
      let h = cond_some _ _ _ e in
      rw (sym h.1) (slice_split_first p (x ∷ xs) x (ltb-true _ _ h.0))

-- there is always a part, which may be empty
parts_of-some : (byte : ℕ) (text : List ℕ)
    → (part : List ℕ) × (parts : List (List ℕ)) × (parts_of byte text ≡ part ∷ parts)
parts_of-some byte text =
    elim (parts_of byte text) as (λ ps. length ps ≡ length (parts_of byte text)
    → (part : List ℕ) × (parts : List (List ℕ))
    × (ps ≡ part ∷ parts)) [
      | [] ↦ λ e. absurd (omega (arith, e, length-slice_split (λ b. nat_eq b byte) text))
      | part ∷ parts ↦ λ e. (part, parts, refl)
    ] refl

without_empty_end-more : (part next : List ℕ) (parts : List (List ℕ))
    → without_empty_end (part ∷ next ∷ parts) ≡ part ∷ without_empty_end (next ∷ parts)
without_empty_end-more [] next parts = refl
without_empty_end-more (b ∷ bs) next parts = refl

without_empty_end-one : (part : List ℕ) → (length part ≡ 0 → ⊥) → without_empty_end (part ∷ []) ≡ part ∷ []
without_empty_end-one [] some = absurd (some refl)
without_empty_end-one (b ∷ bs) some = refl

-- the first line of a text that isn't empty, if a cut at a byte 10 left the rest
pub lines_of-cut : (text line : List ℕ) (left : Option (Bor (List ℕ))) (rest empty : Bor (List ℕ))
    → 0 < length text
    → parts_of 10 text ≡ line ∷ parts_left 10 left → empty.now ≡ [] → rest ≡ unwrap_or left empty
    → lines_of text ≡ line ∷ lines_of rest.now
lines_of-cut text line None rest empty some cut nothing is =
    let whole : line ≡ text = ap (join_with_byte 10) (sym cut) ∙ join_with_byte-slice_split 10 text in
    ap without_empty_end cut ∙ without_empty_end-one line (λ e. omega (arith, ap length whole))
    ∙ ap (λ r. line ∷ lines_of r) (sym nothing ∙ ap (λ r. r.now) (sym is))
lines_of-cut text line (Some left) rest empty some cut nothing is =
    let more = parts_of-some 10 left.now in
    ap without_empty_end (cut ∙ ap (λ ps. line ∷ ps) more.2) ∙ without_empty_end-more line more.0 more.1
    ∙ ap (λ ps. line ∷ without_empty_end ps) (sym more.2) ∙ ap (λ r. line ∷ lines_of r.now) (sym is)
