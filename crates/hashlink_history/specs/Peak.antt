-- The nodes that a map has along several steps: no more than the run needs at its peak.
use Rattle.std.specs.Prelude.{◌≡◌, ℕ, ◌≤◌, max, List, [], ◌∷◌, length}
use Rattle.hashlink_model.specs.MapState.{MapState, node_count}

-- what a run passes: a length, or a shrink at a length
pub data Passed : Type 0 where
  Length Shrunk : ℕ → Passed

-- how many nodes a run needs at most, starting with n: the greatest length that it passed; a shrink starts
-- this anew at its length
abbrev pub peak : ℕ → List Passed → ℕ
peak n [] = n
peak n (Length m ∷ ps) = peak (max n m) ps
peak n (Shrunk m ∷ ps) = peak m ps

module _ {K V S : Type 0} where
  -- what a step passes: the length that the map reached, for which it may have made nodes, or the length at
  -- which it was shrunk
  abbrev pub Passes : MapState K V S → Passed → MapState K V S → Type 0
  Passes old (Length n) new = (length new.entries ≡ n) × (node_count new ≤ max (node_count old) n)
  Passes old (Shrunk n) new = (length new.entries ≡ n) × (node_count new ≡ n)

  -- several steps, each with what it passed
  abbrev pub PassesInTurn : MapState K V S → List Passed → MapState K V S → Type 0
  PassesInTurn old [] new = new ≡ old
  PassesInTurn old (p ∷ ps) new = (between : MapState K V S) × Passes old p between
      × PassesInTurn between ps new
