-- The steps of a map's calls, by their results, and the two kinds of changes in them: changes within the
-- list, and removals of entries.
use Rattle.std.specs.Prelude.{◌≡◌, ℕ, ◌+◌, ◌-◌, ◌*◌, ◌≤◌, max, Bool, List, [], length, Option, Some}
use Rattle.std.specs.Prelude.{MatchOption, Result, MatchResult, IsOk, OnOk, OnErr}
use Rattle.std.specs.Map.{lookup, lookup_entry, remove_entry, set_value}
use Rattle.hashlink_model.specs.MapState.{MapState, empty_map, StoresAtMost, Changes, Removes, Grows}
use Rattle.hashlink_model.specs.{Entries.moved_match, MapState.{AddsEntry, RefusesEntry}}
use Rattle.hashlink_model.specs.Walk.{first_of, after_first_of, last_of, before_last_of}

module _ {K V S : Type 0} where
  -- only the entries `es` are left, no more than there were, and the node of each removed entry is free
  pub record KeepsOnly (old new : MapState K V S) (es : List (K × V)) : Type 0 where
    pub entries : new.entries ≡ es
    pub no_more : length es ≤ length old.entries
    pub spare : new.spare + length es ≡ old.spare + length old.entries
    pub room : new.room ≡ old.room
    pub link_writes : StoresAtMost (3 * (length old.entries - length es)) old.link_writes new.link_writes
    pub hasher : new.hasher ≡ old.hasher

  -- the end of a drain, early or not
  abbrev pub Drains : MapState K V S → MapState K V S → Type 0
  Drains old new = KeepsOnly old new []

  -- a clear frees the nodes of the entries, and leaves those that were free before
  abbrev pub Clears : MapState K V S → MapState K V S → Type 0
  Clears old new = Changes old new [] (3 * length old.entries)

  -- a pop from the front, and one from the back: the entry is removed and returned; an empty map does not
  -- change
  pub record PopsFront (old new : MapState K V S) (r : Option (K × V)) : Type 0 where
    pub answer : r ≡ first_of old.entries
    pub step : MatchOption r (new ≡ old) (λ _. Removes old new (after_first_of old.entries))

  pub record PopsBack (old new : MapState K V S) (r : Option (K × V)) : Type 0 where
    pub answer : r ≡ last_of old.entries
    pub step : MatchOption r (new ≡ old) (λ _. Removes old new (before_last_of old.entries))

  -- a reserve for n more entries: only the room may grow, and after an Ok it is enough. If it was enough
  -- before, the reserve is not refused and changes nothing. A reserve that is refused changes nothing
  pub record Reserves {E : Type 0} (old new : MapState K V S) (n : ℕ) (r : Result (Unit {0}) E) : Type 0 where
    pub grows : Grows n old new
    pub enough : OnOk r (length new.entries + n ≤ new.room)
    pub refused : OnErr r (new ≡ old)
    pub was_enough : length old.entries + n ≤ old.room → IsOk r × (new ≡ old)

  -- a shrink, refused or not, releases the free nodes and does not raise the room. After an Ok the room is
  -- the length. If it is refused, the room stays. On an empty map it is not refused, and leaves no room
  pub record Shrinks {E : Type 0} (old new : MapState K V S) (r : Result (Unit {0}) E) : Type 0 where
    pub entries : new.entries ≡ old.entries
    pub spare : new.spare ≡ 0
    pub fits : length new.entries ≤ new.room
    pub room : new.room ≤ old.room
    pub fitted : OnOk r (new.room ≡ length new.entries)
    pub refused : OnErr r (new.room ≡ old.room)
    pub empty : old.entries ≡ [] → IsOk r × (new.room ≡ 0)
    pub link_writes : new.link_writes ≡ old.link_writes
    pub hasher : new.hasher ≡ old.hasher

  -- a map made with room for n entries and with the hasher s: it has no entry and, if n is 0, no memory
  pub record IsMadeWith (n : ℕ) (s : S) (m : MapState K V S) : Type 0 where
    pub entries : m.entries ≡ []
    pub spare : m.spare ≡ 0
    pub room : n ≤ m.room
    pub bound : m.room ≤ 2 * max 4 n
    pub link_writes : m.link_writes ≡ 0
    pub hasher : m.hasher ≡ s
    pub nothing : n ≡ 0 → m ≡ empty_map s

  -- ---- the first entry whose key passes a test, such as a query's

  -- the state with v as its value, which a write through a loan leaves; the same state if no key passes
  abbrev pub with_match_value : (K → Bool) → MapState K V S → V → MapState K V S
  with_match_value test m v = record m { entries = set_value test m.entries v }

  -- it moves to the place b with its own value, which is returned; if no key passes, nothing changes
  pub record MovesMatch (test : K → Bool) (old new : MapState K V S) (b : ℕ) (r : Option V) : Type 0 where
    pub answer : r ≡ lookup test old.entries
    pub step : MatchOption r (new ≡ old) (λ _. Changes old new (moved_match test old.entries b) 6)

  -- the state that a call leaves that moves it to the place b and lends its value, once w was written there
  pub record MovesMatchAndWrites (test : K → Bool) (old new : MapState K V S) (b : ℕ) (w : V) : Type 0 where
    pub between : MapState K V S
    pub moves : Changes old between (moved_match test old.entries b) 6
    pub writes : new ≡ with_match_value test between w

  -- it is removed and returned; if no key passes, nothing changes
  pub record RemovesMatch (test : K → Bool) (old new : MapState K V S) (r : Option (K × V)) : Type 0 where
    pub answer : r ≡ lookup_entry test old.entries
    pub step : MatchOption r (new ≡ old) (λ _. Removes old new (remove_entry test old.entries))

  module _ (eq : K → K → Bool) where
    -- the state with v as the value of the key, which a write through a loan leaves; the same state if the
    -- key is absent
    abbrev pub with_value_of : MapState K V S → K → V → MapState K V S
    with_value_of m k v = with_match_value (eq k) m v

    -- the present key kept its place and has the value v, and its old value was w. No link was stored
    pub record WritesEntry (old new : MapState K V S) (k : K) (v w : V) : Type 0 where
      pub old_value : lookup (eq k) old.entries ≡ Some w
      pub writes : Changes old new (set_value (eq k) old.entries v) 0

    -- a replace: a present key keeps its place and takes the value, and an absent one is added last
    abbrev pub Replaces : MapState K V S → MapState K V S → K → V → Result (Option V) (K × V) → Type 0
    Replaces old new k v r =
        MatchResult r
        (λ w. MatchOption w (AddsEntry eq old new k v (length old.entries)) (WritesEntry old new k v))
        (RefusesEntry eq old new k v)

    -- a present key moves to the place b with its own value, which is returned; if the key is absent, nothing
    -- changes
    abbrev pub Moves : MapState K V S → MapState K V S → K → ℕ → Option V → Type 0
    Moves old new k b r = MovesMatch (eq k) old new b r

    -- the state that a call leaves that moves a key to the place b and lends its value, once w was written
    -- there
    abbrev pub MovesAndWrites : MapState K V S → MapState K V S → K → ℕ → V → Type 0
    MovesAndWrites old new k b w = MovesMatchAndWrites (eq k) old new b w

    -- the key's entry is removed and returned; if the key is absent, nothing changes
    abbrev pub RemovesKey : MapState K V S → MapState K V S → K → Option (K × V) → Type 0
    RemovesKey old new k r = RemovesMatch (eq k) old new r
