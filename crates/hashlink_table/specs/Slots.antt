-- The slots, as they are stored and as contracts see them.
use Rattle.std.specs.Prelude.{◌≡◌, ℕ, ◌≤◌, ◌==◌, Bool, false, true, cond, List, ◌/◌}
use Rattle.std.specs.Prelude.{map, replicate}
use Rattle.std.specs.{Prelude.{slice_index_or, slice_set, length, Option, None, Some}, List.{zip, All}}
use Rattle.std.specs.Simd.Lanes.{chunk}
use Rattle.hashlink_table.specs.declared.{hashed.Hashed.Hashed, store.cell.Cell.Cell, store.slots.Rest.Rest}
use Rattle.hashlink_table.specs.{declared.store.cell.TheConstants.END, Chains.own_of}
use Rattle.hashlink_table.specs.declared.store.{head.Head.Head, mark.Mark.Mark}
use Rattle.hashlink_table.specs.Records.{Record, free_mark, heads_in, is_guest, is_taken, marks_in}
use Rattle.hashlink_table.specs.Stored.{bare_cell, no_guests, tag_of}

-- the slots as contracts see them: the cells, and the chains of the groups' guests
pub record Grid (N : Type 0) : Type 0 where
  pub cells : List (Cell N)
  pub heads : List Head

-- what is stored for a slot
pub record Row (N : Type 0) : Type 0 where
  pub mark : Mark
  pub node : N
  pub rest : Rest

-- the tag is that of the hash, if there is a node
pub record IsStored {N : Type 0} (row : Row N) : Type 0 where
  pub tagged : is_taken row.mark ≡ true → row.mark.tag ≡ tag_of row.rest.hash
  pub small : row.rest.link ≤ END

-- the node, if there is one, may have this hash; the same of a cell's node that is no guest
abbrev pub kept_may_be : {N : Type 0} → ℕ → Option (Hashed N) → Bool
kept_may_be hash None = false
kept_may_be hash (Some k) = tag_of k.hash == tag_of hash

abbrev pub may_be : {N : Type 0} → ℕ → Cell N → Bool
may_be hash c = kept_may_be hash (own_of c)

module _ {N : Type 0} where
  -- the cell for which this is stored
  abbrev pub slot : Row N → Cell N
  slot row = record {
    kept = cond (is_taken row.mark) (Some (record { hash = row.rest.hash; node = row.node })) None;
    guest = is_guest row.mark;
    next = row.rest.link;
  }

  abbrev pub cells_in : List Mark → List N → List Rest → List (Cell N)
  cells_in ms ns rs =
      map (λ p. slot (record { mark = p.0; node = p.1.0; rest = p.1.1 })) (zip ms (zip ns rs))

  abbrev pub grid_in : List Record → List N → List Rest → Grid N
  grid_in bs ns rs = record { cells = cells_in (marks_in bs) ns rs; heads = heads_in bs }

  -- the lists are the parts of one list of rows, one for each slot
  pub record IsTagged (ms : List Mark) (ns : List N) (rs : List Rest) : Type 0 where
    pub rows : List (Row N)
    pub marks : ms ≡ map (λ row. row.mark) rows
    pub nodes : ns ≡ map (λ row. row.node) rows
    pub rests : rs ≡ map (λ row. row.rest) rows
    pub stored : All IsStored rows

  -- the same, and each group has sixteen slots
  pub record AreSlots (bs : List Record) (ns : List N) (rs : List Rest) : Type 0 where
    pub tagged : IsTagged (marks_in bs) ns rs
    pub even : All (λ b. length b.marks ≡ 16) bs

  -- the sixteen cells from `base` on
  abbrev pub lanes_of : List (Cell N) → ℕ → List (Cell N)
  lanes_of cells base = chunk base 16 cells

  -- the cells, with this node in the cell at `at`, with this guest there, without a node there, and with this
  -- link there
  abbrev pub with_kept : List (Cell N) → ℕ → Hashed N → List (Cell N)
  with_kept cells at k =
      slice_set cells at (record (slice_index_or cells at bare_cell) { kept = Some k; guest = false })

  abbrev pub with_guest : List (Cell N) → ℕ → Hashed N → ℕ → List (Cell N)
  with_guest cells at k next = slice_set cells at (record { kept = Some k; guest = true; next = next })

  abbrev pub without_kept : List (Cell N) → ℕ → List (Cell N)
  without_kept cells at =
      slice_set cells at (record (slice_index_or cells at bare_cell) { kept = None; guest = false })

  abbrev pub with_next : List (Cell N) → ℕ → ℕ → List (Cell N)
  with_next cells at to = slice_set cells at (record (slice_index_or cells at bare_cell) { next = to })

  -- n slots without nodes
  abbrev pub bare_grid : ℕ → Grid N
  bare_grid n = record { cells = replicate n bare_cell; heads = replicate (n / 16) no_guests }

  -- a cell without its node, and all slots without their nodes
  abbrev pub emptied : Cell N → Cell N
  emptied c = record c { kept = None; guest = false }

  abbrev pub cleared : Grid N → Grid N
  cleared g = record { cells = map emptied g.cells; heads = replicate (length g.cells / 16) no_guests }

-- a group without nodes
abbrev pub empty_record : Record
empty_record = record { marks = replicate 16 free_mark; head = no_guests }
