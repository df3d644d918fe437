-- A keep by a closure that writes nothing: `Keeps k v b` states that it may return b for the key k and the
-- value v.
use Rattle.std.specs.Prelude.{◌≡◌, ℕ, ◌%◌, Bool, List, Contains, nat_eq}
use Rattle.hashlink_model.specs.{MapState.MapState, Retain.RetainsInOrder}

-- the pair is one of the entries. It is a record for the same reason as `AskedBy`
pub record IsEntryOf {K V : Type 0} (es : List (K × V)) (pair : K × V) : Type 0 where
  pub stands : Contains es pair

module _ {K V : Type 0} (Keeps : K → V → Bool → Type 0) where
  -- the closure is called at an entry, and the value stays
  abbrev pub AskedAt : Unit {0} → K → V → Bool → V → Unit {0} → Type 0
  AskedAt f k v b w g = Keeps k v b × (w ≡ v)

  -- the closure is called once at each entry, and the entries for which it returned false are removed
  abbrev pub KeepsWhere : {S : Type 0} → MapState K V S → MapState K V S → Type 0
  KeepsWhere old new = RetainsInOrder AskedAt tt old new tt

-- in a text, a keep keeps the entries whose value is even
abbrev pub IsEven : ℕ → ℕ → Bool → Type 0
IsEven k v b = b ≡ nat_eq (v % 2) 0
