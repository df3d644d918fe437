-- What a lookup finds after a change of the entries, in the words of std's maps and sets.
use Rattle.std.specs.Prelude.{◌≡◌, ◌⊎◌, ℕ, ◌<◌, ◌≤◌, Bool, false, cond, List, length, Option, Some, None}
use Rattle.std.specs.{Prelude.{IfSome, IsSome, MatchOption}, List.list_any}
use Rattle.std.specs.Set.{is_member, KeepsOthers as KeepsOtherElements}
use Rattle.std.specs.Map.{AreApart, lookup, lookup_entry, set_value, KeepsOthers}
use Rattle.hashlink_model.specs.{Entries.{IsKeyTest, put}, Entry.key_at}

module _ {K V : Type 0} (eq : K → K → Bool) where
  -- the keys that pass the test have the value w now, or are absent if w is `None`; lookups of other keys are
  -- unchanged. The four parts are for every key, for the test itself, for a key that does not pass, and for a
  -- query for such keys
  abbrev pub UpdatesBy : (K → Bool) → List (K × V) → List (K × V) → Option V → Type 0
  UpdatesBy test old new w =
      ((q : K) → lookup (eq q) new ≡ cond (test q) w (lookup (eq q) old)) × (lookup test new ≡ w)
      × ((q : K) → test q ≡ false → lookup (eq q) new ≡ lookup (eq q) old) × KeepsOthers eq test old new

  -- the test passes a key with a value, which is lent while the entries are es. Once w is written there, the
  -- key has w, and lookups of other keys are unchanged
  abbrev pub UpdatesLent : (K → Bool) → List (K × V) → List (K × V) → Type 0
  UpdatesLent test old es = (w : V) → UpdatesBy test old (set_value test es w) (Some w)

  -- all lookups are unchanged. The three parts are for every key, for the test, and for each query apart from
  -- it
  abbrev pub KeepsLookups : (K → Bool) → List (K × V) → List (K × V) → Type 0
  KeepsLookups test old new =
      ((q : K) → lookup (eq q) new ≡ lookup (eq q) old) × (lookup test new ≡ lookup test old)
      × KeepsOthers eq test old new

module _ {K V : Type 0} (eq : K → K → Bool) where
  -- `UpdatesBy`, at the key k
  abbrev pub Updates : List (K × V) → List (K × V) → K → Option V → Type 0
  Updates old new k w = UpdatesBy eq (eq k) old new w

  -- the key is put last, and its value is lent. Once w is written there, the key has w, and lookups of other
  -- keys are unchanged
  abbrev pub UpdatesLast : List (K × V) → K → Type 0
  UpdatesLast old k = (w : V) → UpdatesBy eq (eq k) old (put eq old k w (length old)) (Some w)

  -- the key at the place j has the value w now, or is absent if w is `None`; lookups of other keys are
  -- unchanged
  abbrev pub UpdatesAt : List (K × V) → List (K × V) → ℕ → Option V → Type 0
  UpdatesAt old new j w = IfSome (key_at old j) (λ k. UpdatesBy eq (eq k) old new w)

  -- all lookups are unchanged, such as those of the key at the place j
  abbrev pub KeepsLookupsAt : List (K × V) → List (K × V) → ℕ → Type 0
  KeepsLookupsAt old new j = IfSome (key_at old j) (λ k. KeepsLookups eq (eq k) old new)

  -- the key of the entry that a pop returned is absent now, and lookups of other keys are unchanged
  abbrev pub UpdatesPopped : List (K × V) → List (K × V) → Option (K × V) → Type 0
  UpdatesPopped old new popped = IfSome popped (λ e. UpdatesBy eq (eq e.0) old new None)

  -- each lookup is unchanged, or finds nothing, since the key was evicted. The two parts are for every key,
  -- and for every query
  abbrev pub EvictsSome : List (K × V) → List (K × V) → Type 0
  EvictsSome old new =
      ((q : K) → (lookup (eq q) new ≡ None) ⊎ (lookup (eq q) new ≡ lookup (eq q) old))
      × ((test : K → Bool) → IsKeyTest eq test
      → (lookup test new ≡ None) ⊎ (lookup test new ≡ lookup test old))

  -- the same, but for the key k: a lookup of each other key is unchanged, or finds nothing. The two parts are
  -- for every key, and for every query apart from k
  abbrev pub EvictsOthers : List (K × V) → List (K × V) → K → Type 0
  EvictsOthers old new k =
      ((q : K) → eq k q ≡ false → (lookup (eq q) new ≡ None) ⊎ (lookup (eq q) new ≡ lookup (eq q) old))
      × ((test : K → Bool) → IsKeyTest eq test → AreApart (eq k) test
      → (lookup test new ≡ None) ⊎ (lookup test new ≡ lookup test old))

  -- an insert into a cache with the capacity `cap`: the key has v now, unless `cap` is 0. Lookups of other
  -- keys are unchanged, or the keys were evicted. None was evicted if there were fewer entries than `cap`, or
  -- as many and the key was present
  abbrev pub UpdatesWithin : ℕ → List (K × V) → List (K × V) → K → V → Type 0
  UpdatesWithin cap old new k v =
      (0 < cap → lookup (eq k) new ≡ Some v) × EvictsOthers old new k
      × (length old < cap → UpdatesBy eq (eq k) old new (Some v))
      × (IsSome (lookup (eq k) old) → length old ≤ cap → UpdatesBy eq (eq k) old new (Some v))

  -- an insert into a cache with a budget: the key has v now, and lookups of other keys are unchanged, or the
  -- keys were evicted
  abbrev pub UpdatesFitting : List (K × V) → List (K × V) → K → V → Type 0
  UpdatesFitting old new k v = (lookup (eq k) new ≡ Some v) × EvictsOthers old new k

module _ {F K V : Type 0} (T : F → K → V → Bool → V → F → Type 0) where
  -- `found` is what a lookup finds at the key of the entry e after a closure was called on e: the value that
  -- the call left, or nothing, as the call's result decides
  abbrev pub AsAnswered : Option V → K × V → Type 0
  AsAnswered found e =
      (f : F) × (b : Bool) × (w : V) × (g : F) × T f e.0 e.1 b w g × (found ≡ cond b (Some w) None)

  -- a retain: the closure was called on each entry, and its result decides whether the entry is left. No
  -- other key is present
  abbrev pub UpdatesKept : (K → K → Bool) → List (K × V) → List (K × V) → Type 0
  UpdatesKept eq old new =
      ((q : K) → MatchOption (lookup_entry (eq q) old) (lookup (eq q) new ≡ None)
      (AsAnswered (lookup (eq q) new)))
      × ((test : K → Bool) → lookup test old ≡ None → lookup test new ≡ None)

-- the same for a set, in which a lookup returns whether an element is present
module _ {T : Type 0} (eq : T → T → Bool) where
  abbrev pub SetUpdatesBy : (T → Bool) → List T → List T → Bool → Type 0
  SetUpdatesBy test old new b =
      ((q : T) → is_member eq new q ≡ cond (test q) b (is_member eq old q)) × (list_any test new ≡ b)
      × ((q : T) → test q ≡ false → is_member eq new q ≡ is_member eq old q)
      × KeepsOtherElements eq test old new

  abbrev pub SetKeepsLookups : (T → Bool) → List T → List T → Type 0
  SetKeepsLookups test old new =
      ((q : T) → is_member eq new q ≡ is_member eq old q) × (list_any test new ≡ list_any test old)
      × KeepsOtherElements eq test old new

module _ {T : Type 0} (eq : T → T → Bool) where
  abbrev pub SetUpdates : List T → List T → T → Bool → Type 0
  SetUpdates old new t b = SetUpdatesBy eq (eq t) old new b

  abbrev pub SetUpdatesPopped : List T → List T → Option T → Type 0
  SetUpdatesPopped old new popped = IfSome popped (λ t. SetUpdatesBy eq (eq t) old new false)
