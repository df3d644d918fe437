-- The keys of a history, each once, in the order of their last uses, and each with its place in a row of
-- marks.
use Rattle.std.specs.Prelude.{◌≡◌, ℕ, ◌+◌, ◌≤◌, Bool, true, false, List, [], ◌∷◌, ◌++◌, length, Option, None}
use Rattle.std.specs.{Prelude.Some, Map.{lookup, values_of}, List.list_any, Set.is_member}
use Rattle.hashlink_model.specs.Entries.{IsEntries, put}
use Rattle.hashlink_curve.specs.Marks.{Marked}

-- the keys in the order of their last uses, and the number of free places after theirs
pub record RecencyState (K : Type 0) : Type 0 where
  pub keys : List K
  pub free : ℕ

-- the places rise from `low` on, and each is below `next`
abbrev pub Rises : {K : Type 0} → ℕ → List (K × ℕ) → ℕ → Type 0
Rises low [] next = low ≤ next
Rises low (e ∷ es) next = (low ≤ e.1) × Rises (e.1 + 1) es next

-- the entries have rising places, at which the marks are
pub record IsPlaced {K : Type 0} (eq : K → K → Bool) (es : List (K × ℕ)) (row : List ℕ)
    (next : ℕ) : Type 0 where
  pub distinct : IsEntries eq es
  pub rises : Rises 0 es next
  pub marked : Marked row (values_of es)
  pub within : next ≤ length row

-- the entry of a key goes last and takes the place `next`; it had the place `was`, or the entry is new. A key
-- passes the test exactly if it is equal to that key
pub record PutsKeyLast {K : Type 0} (eq : K → K → Bool) (test : K → Bool) (old new : List (K × ℕ)) (next : ℕ)
    (was : Option ℕ) : Type 0 where
  pub key : K
  pub tells : test ≡ eq key
  pub entries : new ≡ put eq old key next (length old)
  pub found : was ≡ lookup (eq key) old

module _ {K : Type 0} where
  -- a key passes the test and moves last, past this many others
  pub record MovesPast (test : K → Bool) (old new : List K) (others : ℕ) : Type 0 where
    pub front : List K
    pub key : K
    pub back : List K
    pub split : old ≡ front ++ key ∷ back
    pub passes : test key ≡ true
    pub none_before : list_any test front ≡ false
    pub none_after : list_any test back ≡ false
    pub moved : new ≡ (front ++ back) ++ key ∷ []
    pub count : others ≡ length back

  -- the keys are the same, and no place fewer is free
  pub record KeepsKeys (old new : RecencyState K) : Type 0 where
    pub keys : new.keys ≡ old.keys
    pub free : old.free ≤ new.free

module _ {K : Type 0} (eq : K → K → Bool) where
  -- a key that was absent is added last
  pub record GoesLast (old new : List K) (k : K) : Type 0 where
    pub absent : is_member eq old k ≡ false
    pub last : new ≡ old ++ k ∷ []

  -- a use of a key, by its result
  abbrev pub Touches : List K → List K → K → Option ℕ → Type 0
  Touches old new k None = GoesLast old new k
  Touches old new k (Some others) = MovesPast (eq k) old new others

  -- a use of a key by its result. A key passes the test exactly if it is equal to that key
  pub record TouchesMatch (test : K → Bool) (old new : List K) (others : Option ℕ) : Type 0 where
    pub key : K
    pub tells : test ≡ eq key
    pub touched : Touches old new key others
