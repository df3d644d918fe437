-- The entries of a map: a list of pairs, front first, whose keys are pairwise unequal. The equality `eq` of
-- the keys may be any equivalence. Equal keys may be different objects, so the definitions state which one
-- the list keeps.
use Rattle.std.specs.Prelude.{◌≡◌, IsTrue, ℕ, zero, suc, ◌-◌, ◌+◌, Bool, List, [], ◌∷◌, length, Option, None}
use Rattle.std.specs.Prelude.{Some, cond, if◌then◌else◌, nat_lt, unwrap_or, insert, remove, slice_get, fold}
use Rattle.std.specs.{List.IsDistinct, Option.{option_map, option_map_or}}
use Rattle.std.specs.Map.{keys_of, lookup_key, remove_entry}

-- if a test of keys passes a key, it passes exactly the keys that equal it
abbrev pub IsKeyTest : {K : Type 0} → (K → K → Bool) → (K → Bool) → Type 0
IsKeyTest eq test = (x y : _) → IsTrue (test x) → test y ≡ eq x y

-- the index of the place b once the entry at the place j is taken out: one less if the entry was before b
abbrev pub place_left : ℕ → ℕ → ℕ
place_left j b = if nat_lt j b then b - 1 else b

module _ {K V : Type 0} where
  -- the index, from 0, of the first entry whose key passes the test
  abbrev pub place_of : (K → Bool) → List (K × V) → Option ℕ
  place_of test [] = None
  place_of test (e ∷ es) = cond (test e.0) (Some 0) (option_map (λ j. j + 1) (place_of test es))

  -- the entries with w as the value at the place j, and the entries with k as the key there
  abbrev pub set_value_at : List (K × V) → ℕ → V → List (K × V)
  set_value_at [] j w = []
  set_value_at (e ∷ es) zero w = (e.0, w) ∷ es
  set_value_at (e ∷ es) (suc j) w = e ∷ set_value_at es j w

  abbrev pub set_key_at : List (K × V) → ℕ → K → List (K × V)
  set_key_at [] j k = []
  set_key_at (e ∷ es) zero k = (k, e.1) ∷ es
  set_key_at (e ∷ es) (suc j) k = e ∷ set_key_at es j k

  -- the entries after the one at the place j is moved to the place b
  abbrev pub moved_at : List (K × V) → ℕ → ℕ → List (K × V)
  moved_at es j b = option_map_or (λ e. insert (remove es j) (place_left j b) e) (slice_get es j) es

  -- the entries after the first one whose key passes the test is moved to the place b; the same entries if
  -- none passes
  abbrev pub moved_match : (K → Bool) → List (K × V) → ℕ → List (K × V)
  moved_match test es b = option_map_or (λ j. moved_at es j b) (place_of test es) es

  module _ (eq : K → K → Bool) where
    -- no two keys are equal
    abbrev pub IsEntries : List (K × V) → Type 0
    IsEntries es = IsDistinct eq (keys_of es)

    -- the entries without the key
    abbrev pub without : List (K × V) → K → List (K × V)
    without es k = remove_entry (eq k) es

    -- the key object that the list has for the key: the stored one if the key is present, else the given one
    abbrev pub stored_key : List (K × V) → K → K
    stored_key es k = unwrap_or (lookup_key (eq k) es) k

    -- the index of the place b once the key is taken out
    abbrev pub place_without : List (K × V) → K → ℕ → ℕ
    place_without es k b = option_map_or (λ j. place_left j b) (place_of (eq k) es) b

    -- the entries after the key is put at the place b with the value: a present key moves to b and keeps its
    -- key object
    abbrev pub put : List (K × V) → K → V → ℕ → List (K × V)
    put es k v b = insert (without es k) (place_without es k b) (stored_key es k, v)

    -- the place of the key, or the length if it is absent
    abbrev pub place_or_end : List (K × V) → K → ℕ
    place_or_end es k = unwrap_or (place_of (eq k) es) (length es)

    -- the entries after the key is moved to the place b with its own value; the same entries if it is absent
    abbrev pub moved : List (K × V) → K → ℕ → List (K × V)
    moved es k b = moved_match (eq k) es b

    -- the entries after each pair is inserted at the end in turn
    abbrev pub extended : List (K × V) → List (K × V) → List (K × V)
    extended es pairs = fold (λ zs p. put zs p.0 p.1 (length zs)) es pairs
