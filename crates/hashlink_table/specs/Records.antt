-- What is stored for a group.
use Rattle.std.specs.Prelude.{ℕ, ◌==◌, Bool, false, true, cond, List, [], ◌∷◌, ◌++◌, map, slice_index}
use Rattle.std.specs.{Int.{bit_at}, List.{range_with_len}}
use Rattle.hashlink_table.specs.declared.store.{head.Head.Head, mark.Mark.Mark}

-- a group as contracts see it: the marks of its slots, and its chain
pub record Record : Type 0 where
  pub marks : List Mark
  pub head : Head

-- the mark of the slot at j, from the tags, and from the bits for nodes of the group and for guests
abbrev pub mark_of : List ℕ → ℕ → ℕ → ℕ → Mark
mark_of tags owns guests j =
    record { tag = slice_index tags j; own = bit_at owns j == 1; guest = bit_at guests j == 1 }

abbrev pub record_of : List ℕ → ℕ → ℕ → ℕ → ℕ → Record
record_of tags owns guests first mask = record {
  marks = map (mark_of tags owns guests) (range_with_len 0 16);
  head = record { first = first; mask = mask };
}

-- the mark of a slot without a node
abbrev pub free_mark : Mark
free_mark = record { tag = 0; own = false; guest = false }

-- the slot has a node; it has no node; it has a node of its group with this tag
abbrev pub is_taken : Mark → Bool
is_taken m = cond m.own true m.guest

abbrev pub is_free : Mark → Bool
is_free m = cond m.own false (cond m.guest false true)

abbrev pub has_own : ℕ → Mark → Bool
has_own tag m = cond m.own (m.tag == tag) false

-- the slot has a guest; it has a guest with this tag
abbrev pub is_guest : Mark → Bool
is_guest m = cond m.own false m.guest

abbrev pub has_guest : ℕ → Mark → Bool
has_guest tag m = cond (is_guest m) (m.tag == tag) false

-- the marks of the slots of all groups, and the chains of all groups
abbrev pub marks_in : List Record → List Mark
marks_in [] = []
marks_in (b ∷ bs) = b.marks ++ marks_in bs

abbrev pub heads_in : List Record → List Head
heads_in bs = map (λ b. b.head) bs
