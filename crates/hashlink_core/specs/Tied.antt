-- How the ring of nodes and the table of their hashes agree.
use Rattle.std.specs.{Prelude.{◌≡◌, ℕ, ◌+◌, ◌%◌, ◌^◌, ◌≤◌, Bool, List, length, map, IsPermutation}, List.fold}
use Rattle.hashlink_nodes.specs.{declared.{node.Node.Node, entry.Entry.Entry}, Node.same_node, Ring.Ring}
use Rattle.hashlink_model.specs.Entries.{IsEntries}
use Rattle.hashlink_core.specs.Keyed.{pairs_in}
use Rattle.hashlink_table.specs.{Contents.{Contents, len_of}, declared.hashed.Hashed.Hashed}

-- the hash of a key, from the builder's `build`, a hasher's `write` and `finish`, and the key's `input`
abbrev pub hash_with : {K S H : Type 0} → (S → H) → (H → List ℕ → H) → (H → ℕ)
    → (K → List (List ℕ)) → S → K → ℕ
hash_with build write finish input s k = finish (fold write (build s) (input k))

-- the part of a hash that the table knows
abbrev pub short : ℕ → ℕ
short hash = hash % 2 ^ 32

module _ {K V : Type 0} where
  -- the nodes of the entries, each with its entry's number
  abbrev pub numbered_nodes : List (Node × Entry K V) → List (Hashed Node)
  numbered_nodes = map (λ e. record { hash = e.1.number; node = e.0 })

  -- the ring, its pairs and the table together: no two keys are equal, no node occurs twice, and the number
  -- of each entry is its key's short hash. The table has exactly the entries' nodes, under their numbers, and
  -- room for every node, in use or free
  pub record IsInStep (eq : K → K → Bool) (hash : K → ℕ) (r : Ring K V) (t : Contents Node) : Type 0 where
    pub distinct : IsEntries eq (pairs_in r.entries)
    pub apart : IsEntries same_node r.entries
    pub numbered : map (λ e. e.1.number) r.entries ≡ map (λ e. short (hash e.1.key)) r.entries
    pub tied : IsPermutation (numbered_nodes r.entries) t.nodes
    pub count : len_of t ≡ length r.entries
    pub fits : length r.entries + length r.free ≤ t.room
