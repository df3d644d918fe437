-- From what the keyed list's calls leave at a key's node to what the map's calls leave.
use Rattle.hashlink_core.proofs.Names
use Names.{◌≡◌, ◌+◌, ◌≤◌, ℕ, Bool, length, Option, None, Some, refl, sym, ap, subst, ◌∙◌, slice_get, is_some}
use Names.{option_map, IsEquivalence, lookup, lookup_entry, length-values_of, IsEntries, IsKeyTest, place_of}
use Names.{MovesMatchAndWrites, with_match_value, lookup-moved, set_value_at-place, moved_at-put, put-absent}
use Names.{Keyed, entries_of, state_of, HoldsKey, HoldsMatch, IsKeyed, pair_with_value, with_value_at}
use Names.{place_number, AddsNode, MovesNode, WritesNode, GrowsRoom, place_number-renewed, renewed-holds}
use Rattle.hashlink_core.proofs.Steps.{lookup_entry-place, lookup-place, lookup-unplaced, then_moves}
use Rattle.hashlink_core.{specs.Places.{Node, Holds}, proofs.Holding.moved-holds_key}
use Rattle.hashlink_core.proofs.{Mapped.values-renewed_value, Steps.none_passes_from_place}
use Rattle.std.{specs.Prelude.{Result, Err, IsErrAnd}, proofs.lemmas.Result.err_from_is_err_and}
use Rattle.hashlink_model.{specs.Entries.moved_match, proofs.Splits.key_from_place}
use Rattle.hashlink_model.specs.MapState.{RoomFor, Changes, AddsEntry, PutsEntry, RefusesEntry}

-- the guard's number is the length
pub guard-number : {K V S : Type 0} (m : Keyed K V S) → place_number m.nodes None ≡ length (entries_of m)
guard-number m = sym (length-values_of m.nodes)

module _ {K V S : Type 0} {old new : Keyed K V S} {j : ℕ} {v : V} (s : WritesNode old new j v) where
  -- a write of a value leaves every node at its place
  pub written-number : (p : Option Node) → place_number new.nodes p ≡ place_number old.nodes p
  written-number p = rw s.nodes (place_number-renewed (pair_with_value v) old.nodes j p)

  pub written-holds : (n : Node) → Holds old.nodes n → Holds new.nodes n
  written-holds n h = rw s.nodes (renewed-holds (pair_with_value v) old.nodes j n h)

module _ {K V S : Type 0} (eq : K → K → Bool) (old new : Keyed K V S) (k : K) where
  -- ---- an absent key

  pub added : (v : V) (b b' : ℕ) (n : Node) → b' ≡ b → place_of (eq k) (entries_of old) ≡ None
      → AddsNode old new b' n k v
      → AddsEntry eq (state_of old) (state_of new) k v b
  added v b b' n same p s = record {
    absent = lookup-unplaced (eq k) (entries_of old) p;
    adds = rw (
      put-absent eq (entries_of old) k v b
          (none_passes_from_place (eq k) (entries_of old) p),
      ← same,
    )
        s.state;
  }

  pub refused : (v : V) (pair : K × V) → place_of (eq k) (entries_of old) ≡ None
      → old.spare ≡ 0 → pair ≡ (k, v)
      → GrowsRoom 1 old new
      → RefusesEntry eq (state_of old) (state_of new) k v pair
  refused v pair p none same s = record {
    may_refuse = record { absent = lookup-unplaced (eq k) (entries_of old) p; no_spare = none };
    handed_back = same;
    grows = record {
      entries = ap entries_of s.rest;
      spare = ap (λ m. m.spare) s.rest;
      room = subst (λ n. RoomFor (n + 1) old.room new.room) (sym (length-values_of old.nodes)) s.more;
      link_writes = ap (λ m. m.link_writes) s.rest;
      hasher = ap (λ m. m.hasher) s.rest;
    };
  }

  -- ---- a present key, at the node n

  module _ (n : Node) (found : HoldsKey eq old.nodes k n) where
    -- a new value, and then a move
    pub put : (mid : Keyed K V S) (v w : V) (b b' : ℕ) → b' ≡ b
        → option_map (λ e. e.1) (slice_get (entries_of old) (place_number old.nodes (Some n))) ≡ Some w
        → WritesNode old mid (place_number old.nodes (Some n)) v
        → MovesNode mid new (place_number mid.nodes (Some n)) b'
        → PutsEntry eq (state_of old) (state_of new) k v b w
    put mid v w b b' same was s t =
        let j = place_number old.nodes (Some n) in
        record {
          old_value = lookup-place (eq k) (entries_of old) j found.place ∙ was;
          puts = subst (λ es. Changes (state_of old) (state_of new) es 6)
              (moved_at-put eq (entries_of old) k j found.place v b)
              (then_moves (state_of old) (state_of mid) (state_of new) _ s.state j _ b' b
              (written-number s (Some n)) same t.state);
        }

-- ---- the first key that passes a test, at the node n

module _ {K V S : Type 0} (test : K → Bool) (old new : Keyed K V S) (n : Node)
    (found : HoldsMatch test old.nodes n) where
  abbrev j : ℕ
  j = place_number old.nodes (Some n)

  moved-match : (b b' : ℕ) → b' ≡ b → MovesNode old new j b'
      → Changes (state_of old) (state_of new) (moved_match test (entries_of old) b) 6
  moved-match b b' same s = rw (found.place, ← same) s.state

  pub stored : (e : K × V) → slice_get (entries_of old) j ≡ Some e
      → lookup_entry test (entries_of old) ≡ Some e
  stored e at = lookup_entry-place test (entries_of old) j found.place ∙ at

  pub stored-value : (w : V) → option_map (λ e. e.1) (slice_get (entries_of old) j) ≡ Some w
      → lookup test (entries_of old) ≡ Some w
  stored-value w at = lookup-place test (entries_of old) j found.place ∙ at

  -- what is written through a loan of the node's value is written at the key
  pub lent : (w : V) → state_of (with_value_at old n w) ≡ with_match_value test (state_of old) w
  lent w = ap (λ es. record (state_of old) { entries = es })
      (values-renewed_value old.nodes j w ∙ set_value_at-place test (entries_of old) j w found.place)

-- a value that is lent at a node that has moved
module _ {K V S : Type 0} (eq : K → K → Bool) (laws : IsEquivalence eq) (test : K → Bool)
    (tells : IsKeyTest eq test) (old new : Keyed K V S) (n : Node) (found : HoldsMatch test old.nodes n)
    (b b' : ℕ) (same : b' ≡ b) (le : b' ≤ length old.nodes)
    (s : MovesNode old new (place_number old.nodes (Some n)) b') (sound : IsKeyed eq new) where
  -- the test is the equality with the key that passes it
  by_key : (P : (K → Bool) → Type 0) → ((k : K) → HoldsKey eq old.nodes k n → P (eq k)) → P test
  by_key P f =
      let k = key_from_place test eq tells (entries_of old) (place_number old.nodes (Some n)) found.place in
      subst P (sym k.1) (f k.0 (subst (λ t. HoldsMatch t old.nodes n) k.1 found))

  pub moved-found : HoldsMatch test new.nodes n
  moved-found = by_key (λ t. HoldsMatch t new.nodes n)
      (λ k f. moved-holds_key eq laws old new k n f b' s sound)

  pub lent-moved : (w : V) → MovesMatchAndWrites test (state_of old) (state_of (with_value_at new n w)) b w
  lent-moved w = record {
    between = state_of new;
    moves = moved-match test old new n found b b' same s;
    writes = lent test new new n moved-found w;
  }

  pub moved-value : (w : V)
      → option_map (λ e. e.1) (slice_get (entries_of new) (place_number new.nodes (Some n))) ≡ Some w
      → IsEntries eq (entries_of old)
      → lookup test (entries_of old) ≡ Some w
  moved-value w at d =
      by_key (λ t. lookup t (entries_of old) ≡ Some w)
      (λ k f. sym (lookup-moved eq laws k (entries_of old) k b d)
      ∙ ap (lookup (eq k)) (sym (moved-match (eq k) old new n f b b' same s).entries)
      ∙ stored-value (eq k) new new n (moved-holds_key eq laws old new k n f b' s sound) w at)

pub is_some-map : {X Y : Type 0} (f : X → Y) (o : Option X) → is_some (option_map f o) ≡ is_some o
is_some-map f None = refl
is_some-map f (Some x) = refl

-- a refusal that a `?` passes on
pub passed-on : {A B : Type 0} (P : Result A B → Type 0) (r : Result A B) (e : B) → IsErrAnd r (λ y. y ≡ e)
    → P (Err e)
    → P r
passed-on P r e q p = let is = err_from_is_err_and r q in subst P (sym (is.1 ∙ ap Err is.2)) p
