-- Settings in sections, which other settings are laid over.
use Rattle.std.specs.Prelude.{◌≡◌, Bool, cond, is_some, List, [], ◌∷◌, ◌++◌, Option, fold, map}
use Rattle.std.specs.{Map.lookup, Option.option_map_or}
use Rattle.hashlink.specs.{Entries.{place_or_end, put}, Keyed.{Keyed, entries_of}}
use Rattle.hashlink_uses.specs.Merged.{merged}

-- the sections with their settings, of entries that are maps
abbrev pub settings_in : {N K V S : Type 0} → List (N × Keyed K V S) → List (N × List (K × V))
settings_in es = map (λ e. (e.0, entries_of e.1)) es

-- the settings of a section after others are merged into it, if it is there
abbrev pub laid_on : {K V : Type 0} → (K → K → Bool) → Option (List (K × V)) → List (K × V) → List (K × V)
laid_on same_key own settings = option_map_or (λ there. merged same_key there settings) own settings

module _ {N K V : Type 0} (same_name : N → N → Bool) (same_key : K → K → Bool) where
  -- the sections after one is laid over: a present one keeps its place, and a new one is added last
  abbrev pub with_section : List (N × List (K × V)) → N × List (K × V) → List (N × List (K × V))
  with_section sections s =
      put same_name sections s.0 (laid_on same_key (lookup (same_name s.0) sections) s.1)
      (place_or_end same_name sections s.0)

  -- the sections after each other one is laid over in order
  abbrev pub laid_over : List (N × List (K × V)) → List (N × List (K × V)) → List (N × List (K × V))
  laid_over sections others = fold with_section sections others

  -- the others before the one at which memory ran out were laid over. Of that one the settings `set` were, if
  -- its name was present; else it was not added
  abbrev pub StopsLaying : List (N × List (K × V)) → List (N × List (K × V)) → List (N × List (K × V))
      → Type 0
  StopsLaying sections others new =
      (done left : List (N × List (K × V))) × (name : N) × (set rest : List (K × V))
      × (others ≡ done ++ (name, set ++ rest) ∷ left)
      × (new ≡ (let there = is_some (lookup (same_name name) (laid_over sections done)) in
      laid_over sections (done ++ cond there ((name, set) ∷ []) [])))
