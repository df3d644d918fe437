-- Marks at the places of a row, and the rows of sums above it. Each row of sums has the sums of the blocks of
-- 64 entries of the row below.
use Rattle.std.specs.Prelude.{◌≡◌, ℕ, ◌+◌, ◌-◌, ◌*◌, ◌/◌, ◌^◌, ◌<◌, ◌≤◌, List, [], ◌∷◌, length, take, sum}
use Rattle.std.specs.{Prelude.{nat_eq, slice_index, slice_range, All, map, set, Vec, ⊤}, List.count_by}
use Rattle.std.specs.declared.alloc.Global.{Global}

abbrev pub rows_of : List (Vec ℕ Global) → List (List ℕ)
rows_of rows = map (λ row. row.items) rows

-- a place has as many marks as it has occurrences in the list
pub record Marked (row places : List ℕ) : Type 0 where
  pub each : (x : ℕ) → x < length row → slice_index row x ≡ count_by (nat_eq x) places

-- each number is the sum of a block of the row, and each block has a sum
pub record HasSums (row sums : List ℕ) : Type 0 where
  pub each : (j : ℕ) → j ≤ length sums → sum (take j sums) ≡ sum (take (64 * j) row)
  pub all : length row ≤ 64 * length sums

-- the rows are the sums above this row, up to a row of one block
abbrev pub HasRows : List ℕ → List (List ℕ) → Type 0
HasRows row [] = length row ≤ 64
HasRows row (sums ∷ above) = HasSums row sums × HasRows sums above

pub record AreSummed (row : List ℕ) (above : List (List ℕ)) : Type 0 where
  pub rows : HasRows row above
  pub small : length row < 2 ^ 62
  pub one : All (λ marks. marks ≤ 1) row

-- the sum before a node: in its own block, and in the blocks before
abbrev pub sum_before : ℕ → List (List ℕ) → ℕ
sum_before node [] = 0
sum_before node (row ∷ above) =
    sum (slice_range row (64 * (node / 64)) node) + sum_before (node / 64) above

-- the node is within its row, so is the node of its block, and so on
abbrev pub HasNode : ℕ → List (List ℕ) → Type 0
HasNode node [] = ⊤
HasNode node (row ∷ above) = (node < length row) × HasNode (node / 64) above

-- at the node, at the node of its block, and so on, `less` is subtracted and `more` is added
abbrev pub changed : ℕ → ℕ → ℕ → List (List ℕ) → List (List ℕ)
changed node less more [] = []
changed node less more (row ∷ above) =
    set row node (slice_index row node - less + more) ∷ changed (node / 64) less more above

abbrev pub CanChange : ℕ → ℕ → ℕ → List (List ℕ) → Type 0
CanChange node less more [] = ⊤
CanChange node less more (row ∷ above) =
    (node < length row) × (less ≤ slice_index row node) × (slice_index row node + more < 2 ^ 64)
    × CanChange (node / 64) less more above
