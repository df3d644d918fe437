-- The slots that a table stores.
use Rattle.std.specs.Prelude.{ℕ, ◌+◌, ◌*◌, ◌/◌, ◌%◌, ◌^◌, bit_or, false, None}
use Rattle.hashlink_table.specs.declared.store.{cell.Cell.Cell, cell.TheConstants.END, head.Head.Head}

-- a slot without a node; a read past the last slot gives this too
abbrev pub bare_cell : {N : Type 0} → Cell N
bare_cell = record { kept = None; guest = false; next = END }

-- the tag of a hash: its lowest four bits and its highest four
abbrev pub tag_of : ℕ → ℕ
tag_of hash = hash % 16 * 16 + hash / 2 ^ 28 % 16

-- the bit of a chain's mask that a guest of this hash sets
abbrev pub mask_bit_of : ℕ → ℕ
mask_bit_of hash = tag_of hash % 64

-- the chain of a group without guests, and a chain with one more guest as its first
abbrev pub no_guests : Head
no_guests = record { first = END; mask = 0 }

abbrev pub with_guest_in : Head → ℕ → ℕ → Head
with_guest_in head hash at = record { first = at; mask = bit_or head.mask (2 ^ mask_bit_of hash) }
