-- The contents of a node's block: its links, and the number and the pair of an entry, if it holds one.
use Rattle.std.specs.{Prelude.{ℕ, ◌^◌, Bool, cond, List, [], ◌∷◌, Option, None, Some}, Option.option_map}
use Rattle.hashlink_nodes.specs.declared.pool.links.Links.{Links}

pub record Kept (T : Type 0) : Type 0 where
  pub links : Links
  pub entry : Option (ℕ × T)

-- the list with f of the value of the first entry whose key passes
abbrev pub alter : {K X : Type 0} → (K → Bool) → (X → X) → List (K × X) → List (K × X)
alter test f [] = []
alter test f (e ∷ es) = cond (test e.0) ((e.0, f e.1) ∷ es) (e ∷ alter test f es)

module _ {T : Type 0} where
  abbrev pub kept : Links → Option (ℕ × T) → Kept T
  kept l e = record { links = l; entry = e }

  abbrev pub with_links : Links → Kept T → Kept T
  with_links l k = kept l k.entry

  abbrev pub with_entry : Option (ℕ × T) → Kept T → Kept T
  with_entry e k = kept k.links e

  -- the contents with another pair, if there is one
  abbrev pub with_pair : T → Kept T → Kept T
  with_pair w k = kept k.links (option_map (λ e. (e.0, w)) k.entry)

  -- the entry of a block, if there is one
  abbrev pub entry_in : Option (Kept T) → Option (ℕ × T)
  entry_in None = None
  entry_in (Some k) = k.entry

  -- the number in the block: if it holds no entry, a number that no entry has
  abbrev pub number_word : Option (ℕ × T) → ℕ
  number_word None = 2 ^ 48
  number_word (Some e) = e.0
