-- Steps at a place, and the same steps at the key of the entry there.
use Rattle.hashlink_model.proofs.Names.{set_value_same, ◌≡◌, ℕ, zero, suc, ◌-◌, ◌<◌, Bool, List, [], ◌∷◌}
use Rattle.hashlink_model.proofs.Names.{◌++◌, length, Some, refl, sym, ap, ap₂, ◌∙◌, arith, lt-ltb}
use Rattle.hashlink_model.proofs.Names.{length-append, insert, remove, option_map_or, keys_of, lookup}
use Rattle.hashlink_model.proofs.Names.{remove_entry, set_value, insert_end, none-some, place_of, place_left}
use Rattle.hashlink_model.proofs.{Names.{moved_at, set_value_at, set_key_at, put, moved}, Puts.put-here}
use Rattle.hashlink_model.proofs.Splits.{stands_from_place, stands_from_lookup, place_of-here}
use Rattle.hashlink_model.proofs.Places.{slice_get_here}

module _ {K V : Type 0} where
  -- ---- in a list split at the place

  pub set_value_at-here : (xs : List (K × V)) (e : K × V) (ys : List (K × V)) (w : V)
      → set_value_at (xs ++ e ∷ ys) (length xs) w ≡ xs ++ (e.0, w) ∷ ys
  set_value_at-here [] e ys w = refl
  set_value_at-here (x ∷ xs) e ys w = ap (λ r. x ∷ r) (set_value_at-here xs e ys w)

  pub set_key_at-here : (xs : List (K × V)) (e : K × V) (ys : List (K × V)) (k : K)
      → set_key_at (xs ++ e ∷ ys) (length xs) k ≡ xs ++ (k, e.1) ∷ ys
  set_key_at-here [] e ys k = refl
  set_key_at-here (x ∷ xs) e ys k = ap (λ r. x ∷ r) (set_key_at-here xs e ys k)

  pub remove-here : (xs : List (K × V)) (e : K × V) (ys : List (K × V))
      → remove (xs ++ e ∷ ys) (length xs) ≡ xs ++ ys
  remove-here [] e ys = refl
  remove-here (x ∷ xs) e ys = ap (λ r. x ∷ r) (remove-here xs e ys)

  pub moved_at-here : (xs : List (K × V)) (e : K × V) (ys : List (K × V)) (b : ℕ)
      → moved_at (xs ++ e ∷ ys) (length xs) b ≡ insert (xs ++ ys) (place_left (length xs) b) e
  moved_at-here xs e ys b = rw (slice_get_here xs e ys, remove-here xs e ys) refl

  -- to the end
  pub moved_at-last : (xs : List (K × V)) (e : K × V) (ys : List (K × V))
      → moved_at (xs ++ e ∷ ys) (length xs) (length (xs ++ e ∷ ys)) ≡ (xs ++ ys) ++ e ∷ []
  moved_at-last xs e ys =
      let long = length-append xs (e ∷ ys) in
      let rest = length-append xs ys in
      let below : length xs < length (xs ++ e ∷ ys) = omega arith in
      let last : length (xs ++ e ∷ ys) - 1 ≡ length (xs ++ ys) = omega arith in
      moved_at-here xs e ys (length (xs ++ e ∷ ys)) ∙ rw (lt-ltb _ _ below, last) (insert_end (xs ++ ys) e)

  pub keys-set_value_at : (es : List (K × V)) (j : ℕ) (w : V) → keys_of (set_value_at es j w) ≡ keys_of es
  keys-set_value_at [] j w = refl
  keys-set_value_at (e ∷ es) zero w = refl
  keys-set_value_at (e ∷ es) (suc j) w = ap (λ r. e.0 ∷ r) (keys-set_value_at es j w)

  pub length-set_value_at : (es : List (K × V)) (j : ℕ) (w : V) → length (set_value_at es j w) ≡ length es
  length-set_value_at [] j w = refl
  length-set_value_at (e ∷ es) zero w = refl
  length-set_value_at (e ∷ es) (suc j) w = ap suc (length-set_value_at es j w)

  -- ---- at the place of a key

  pub set_value_at-place : (test : K → Bool) (es : List (K × V)) (j : ℕ) (w : V) → place_of test es ≡ Some j
      → set_value_at es j w ≡ set_value test es w
  set_value_at-place test [] j w p = refl
  set_value_at-place test (e ∷ es) zero w p = grind (arith, p)
  set_value_at-place test (e ∷ es) (suc j) w p = grind (arith, p, set_value_at-place test es j w)

  pub remove-place : (test : K → Bool) (es : List (K × V)) (j : ℕ) → place_of test es ≡ Some j
      → remove es j ≡ remove_entry test es
  remove-place test [] j p = absurd (none-some j p)
  remove-place test (e ∷ es) zero p = grind (arith, p)
  remove-place test (e ∷ es) (suc j) p = grind (arith, p, remove-place test es j)

  module _ (eq : K → K → Bool) (es : List (K × V)) (k : K) (j : ℕ) (p : place_of (eq k) es ≡ Some j) where
    -- an entry that moves with a new value is put
    pub moved_at-put : (v : V) (b : ℕ) → moved_at (set_value_at es j v) j b ≡ put eq es k v b
    moved_at-put v b =
        let s = stands_from_place (eq k) es j p in
        ap₂ (λ zs n. moved_at (set_value_at zs n v) n b) s.3.is (sym s.4)
        ∙ ap (λ zs. moved_at zs (length s.0) b) (set_value_at-here s.0 s.1 s.2 v)
        ∙ moved_at-here s.0 (s.1.0, v) s.2 b
        ∙ sym (put-here eq s.0 s.1 s.2 k v b s.3.passes s.3.before) ∙ ap (λ zs. put eq zs k v b) (sym s.3.is)

    pub moved_at-place : (b : ℕ) → moved_at es j b ≡ moved eq es k b
    moved_at-place b = ap (λ o. option_map_or (λ i. moved_at es i b) o es) (sym p)

-- an entry that moves with its own value is put
pub moved-there : {K V : Type 0} (eq : K → K → Bool) (es : List (K × V)) (k : K) (b : ℕ) (w : V)
    → lookup (eq k) es ≡ Some w → moved eq es k b ≡ put eq es k w b
moved-there eq es k b w l =
    let s = stands_from_lookup (eq k) es w l in
    let p = ap (place_of (eq k)) s.3.is ∙ place_of-here (eq k) s.1 s.2 s.3.passes s.0 s.3.before in
    let same = set_value_at-place (eq k) es (length s.0) w p ∙ set_value_same (eq k) es w l in
    sym (moved_at-place eq es k (length s.0) p b) ∙ ap (λ zs. moved_at zs (length s.0) b) (sym same)
    ∙ moved_at-put eq es k (length s.0) p w b

pub ruleset by_place = (remove-place, moved_at-place, moved_at-put, set_value_at-place, keys-set_value_at)
