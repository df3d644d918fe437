-- Entries whose values are seen through a function, such as containers that are values, seen as their own
-- entries. The comment over each lemma names the goal that it closes.
use Rattle.std.proofs.Common.{◌≡◌, Bool, true, false, cond, List, [], ◌∷◌, ◌++◌, refl, sym}
use Rattle.std.proofs.Common.{ap, subst, ◌∙◌, map, is_some}
use Rattle.std.proofs.lemmas.List.{map-append}
use Rattle.std.proofs.lemmas.Map.Made.{is_some-lookup}
use Rattle.std.specs.List.{IsDistinct, list_any}
use Rattle.std.specs.Map.{lookup, remove_entry, set_value}
use Rattle.hashlink_map.proofs.Listed.{put_in_place}
use Rattle.hashlink_model.specs.Entries.{IsEntries, place_or_end, put}
pub use Rattle.std.proofs.lemmas.Map.Made.{lookup-map_values, keys_of-map_values}

module _ {K V W : Type 0} (f : V → W) where
  -- the entries with what f sees of each value
  abbrev seen : List (K × V) → List (K × W)
  seen es = map (λ e. (e.0, f e.1)) es

  -- goal: the entries seen after a write and after a removal
  pub set_value-map_values : (test : K → Bool) (es : List (K × V)) (w : V)
      → map (λ e. (e.0, f e.1)) (set_value test es w) ≡ set_value test (map (λ e. (e.0, f e.1)) es) (f w)
  set_value-map_values test [] w = refl
  set_value-map_values test (e ∷ es) w = by (test e.0) (set_value-map_values test es w)
    where
      by : (b : Bool) → seen (set_value test es w) ≡ set_value test (seen es) (f w)
          → seen (cond b ((e.0, w) ∷ es) (e ∷ set_value test es w))
          ≡ cond b ((e.0, f w) ∷ seen es) ((e.0, f e.1) ∷ set_value test (seen es) (f w))
      by true h = refl
      by false h = ap (λ zs. (e.0, f e.1) ∷ zs) h

  pub remove_entry-map_values : (test : K → Bool) (es : List (K × V))
      → map (λ e. (e.0, f e.1)) (remove_entry test es) ≡ remove_entry test (map (λ e. (e.0, f e.1)) es)
  remove_entry-map_values test [] = refl
  remove_entry-map_values test (e ∷ es) = by (test e.0) (remove_entry-map_values test es)
    where
      by : (b : Bool) → seen (remove_entry test es) ≡ remove_entry test (seen es)
          → seen (cond b es (e ∷ remove_entry test es))
          ≡ cond b (seen es) ((e.0, f e.1) ∷ remove_entry test (seen es))
      by true h = refl
      by false h = ap (λ zs. (e.0, f e.1) ∷ zs) h

  -- goal: whether a key is found does not depend on what is seen of the values
  pub is_some-map_values : (test : K → Bool) (es : List (K × V))
      → is_some (lookup test (map (λ e. (e.0, f e.1)) es)) ≡ is_some (lookup test es)
  is_some-map_values test es =
      is_some-lookup test (seen es) ∙ ap (list_any test) (keys_of-map_values f es)
      ∙ sym (is_some-lookup test es)

  module _ (eq : K → K → Bool) where
    -- goal: no two keys are equal among the entries seen
    pub IsEntries-map_values : (es : List (K × V)) → IsEntries eq es
        → IsEntries eq (map (λ e. (e.0, f e.1)) es)
    IsEntries-map_values es d = subst (IsDistinct eq) (sym (keys_of-map_values f es)) d

    -- goal: the entries seen after a replace
    pub put_in_place-map_values : (es : List (K × V)) (k : K) (v : V)
        → map (λ e. (e.0, f e.1)) (put eq es k v (place_or_end eq es k))
        ≡ put eq (map (λ e. (e.0, f e.1)) es) k (f v) (place_or_end eq (map (λ e. (e.0, f e.1)) es) k)
    put_in_place-map_values es k v =
        ap seen (put_in_place eq es k v) ∙ by (is_some (lookup (eq k) es))
        ∙ ap written (sym (is_some-map_values (eq k) es)) ∙ sym (put_in_place eq (seen es) k (f v))
      where
        written : Bool → List (K × W)
        written b = cond b (set_value (eq k) (seen es) (f v)) (seen es ++ (k, f v) ∷ [])

        by : (b : Bool) → seen (cond b (set_value (eq k) es v) (es ++ (k, v) ∷ [])) ≡ written b
        by true = set_value-map_values (eq k) es v
        by false = map-append (λ e. (e.0, f e.1)) es ((k, v) ∷ [])
