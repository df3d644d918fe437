-- A key is found exactly if it has a place, and a first value exactly if there is an entry. The comment over
-- each lemma names the goal that it closes.
use Rattle.std.proofs.Common.{◌≡◌, ℕ, zero, suc, ◌+◌, ◌-◌, ◌<◌, ◌%◌, Bool, true, false, List, [], ◌∷◌, None}
use Rattle.std.proofs.Common.{Some, is_some, is_none, refl, sym, ap, ◌∙◌, arith, mod-eq_of_lt}
use Rattle.std.{proofs.Math.Nat.add-mod_right, specs.Prelude.{drop, length, option_map, slice_get, take}}
use Rattle.std.specs.Map.{lookup}
use Rattle.hashlink_model.specs.{Cursor.preceding_place, Entries.place_of, Walk.first_of}

module _ {K V : Type 0} (test : K → Bool) where
  found-placed : (es : List (K × V)) → is_some (lookup test es) ≡ is_some (place_of test es)
  found-placed [] = refl
  found-placed (e ∷ es) = grind (arith, found-placed es)

  -- goal: whether a key is found, by its place or by the lack of one
  pub is-found : (es : List (K × V)) (j : ℕ) → place_of test es ≡ Some j → true ≡ is_some (lookup test es)
  is-found es j p = sym (found-placed es ∙ ap is_some p)

  pub is-not-found : (es : List (K × V)) → place_of test es ≡ None → false ≡ is_some (lookup test es)
  is-not-found es p = sym (found-placed es ∙ ap is_some p)

  pub is-not-absent : (es : List (K × V)) (j : ℕ) → place_of test es ≡ Some j
      → false ≡ is_none (lookup test es)
  is-not-absent es j p = grind (arith, is-found es j p)

-- goal: that there are no entries, as no value is first
pub no-value-first : {K V : Type 0} (es : List (K × V)) → option_map (λ e. e.1) (slice_get es 0) ≡ None
    → es ≡ []
no-value-first [] p = refl
no-value-first (e ∷ es) p = absurd (cc)

pub no-value-left : {K V : Type 0} (es : List (K × V))
    → option_map (λ e. e.1) (first_of (take (length es) (drop 0 es))) ≡ None
    → es ≡ []
no-value-left [] p = refl
no-value-left (e ∷ es) p = absurd (cc)

-- goal: that there are fewer than two entries, as the place before the last is the guard
pub few-before-last : (n : ℕ) → preceding_place n (n - 1) ≡ n → n < 2
few-before-last zero p = omega arith
few-before-last (suc zero) p = omega arith
few-before-last (suc (suc n)) p =
    let turn : suc (suc n) - 1 + suc (suc n) ≡ n + (suc (suc n) + 1) = omega arith in
    let is : preceding_place (suc (suc n)) (suc (suc n) - 1) ≡ n =
    ap (λ m. m % (suc (suc n) + 1)) turn ∙ add-mod_right n (suc (suc n) + 1) ∙ mod-eq_of_lt (omega arith) in
    let same : n ≡ suc (suc n) = sym is ∙ p in
    omega (arith, same)
