-- The value of a key is modified at its entry, and then the key is put last, or refused.
use Rattle.std.proofs.Common.{◌≡◌, ℕ, Bool, List, [], ◌∷◌, length, Option, None, Some, refl, sym, ap, ap₂}
use Rattle.std.{proofs.Common.{subst, zero, suc, ◌∙◌}, specs.Fn.{Once, FnOnceReturnsAtMut}, specs.Map.lookup}
use Rattle.std.specs.{Borrow.MutBor, Prelude.{MatchOption, unwrap_or, option_map, option_and_then}}
use Rattle.hashlink_model.specs.MapState.{AddsEntry, MapState, PutsEntry, RefusesEntry, with_value}
use Rattle.hashlink_model.{proofs.ByPlace.{length-set_value_at, set_value_at-here}, proofs.Puts.put-here}
use Rattle.hashlink_model.{specs.Entries.{place_of, put}, specs.Entry.{EntryState, entry_of, value_at}}
use Rattle.hashlink_model.{proofs.Splits.{lookup-here, stands_from_place}, specs.Entries.set_value_at}
use Rattle.hashlink_core.proofs.Steps.{lookup-place, lookup-unplaced}
use Rattle.hashlink_map.specs.{Entry.{Modifies, entry_value}, EntryLends.PutsLast}

module _ {K V : Type 0} (eq : K → K → Bool) (es : List (K × V)) (k : K) (j : ℕ) where
  module _ (p : place_of (eq k) es ≡ Some j) (w : V) where
    lookup-modified : lookup (eq k) (set_value_at es j w) ≡ Some w
    lookup-modified =
        let s = stands_from_place (eq k) es j p in
        ap (lookup (eq k))
        (ap₂ (λ zs n. set_value_at zs n w) s.3.is (sym s.4) ∙ set_value_at-here s.0 s.1 s.2 w)
        ∙ lookup-here (eq k) (s.1.0, w) s.2 s.3.passes s.0 s.3.before

    put-modified : (u : V) (b : ℕ) → put eq (set_value_at es j w) k u b ≡ put eq es k u b
    put-modified u b =
        let s = stands_from_place (eq k) es j p in
        ap (λ zs. put eq zs k u b)
        (ap₂ (λ zs n. set_value_at zs n w) s.3.is (sym s.4) ∙ set_value_at-here s.0 s.1 s.2 w)
        ∙ put-here eq s.0 (s.1.0, w) s.2 k u b s.3.passes s.3.before
        ∙ sym (put-here eq s.0 s.1 s.2 k u b s.3.passes s.3.before)
        ∙ ap (λ zs. put eq zs k u b) (sym s.3.is)

-- a put of the same key last leaves the same entries, whether its value was modified before or not
puts_modified : {K V S : Type 0} (eq : K → K → Bool) (old new : MapState K V S) (k : K) (j : ℕ) (v w u : V)
    → place_of (eq k) old.entries ≡ Some j → lookup (eq k) old.entries ≡ Some v
    → PutsLast eq (with_value old j w) new k u
    → PutsLast eq old new k u
puts_modified {K} {V} {S} eq old new k j v w u p l s = subst Put (sym l) puts
  where
    n : ℕ
    n = length (set_value_at old.entries j w)

    Put : Option V → Type 0
    Put o = MatchOption o (AddsEntry eq old new k u (length old.entries))
        (PutsEntry eq old new k u (length old.entries))

    then_put : PutsEntry eq (with_value old j w) new k u n w
    then_put = subst
        (λ o. MatchOption o (AddsEntry eq (with_value old j w) new k u n)
        (PutsEntry eq (with_value old j w) new k u n)) (lookup-modified eq old.entries k j p w) s

    puts : PutsEntry eq old new k u (length old.entries) v
    puts = record {
      old_value = l;
      puts = record {
        entries = then_put.puts.entries ∙ put-modified eq old.entries k j p w u n
            ∙ ap (put eq old.entries k u) (length-set_value_at old.entries j w);
        spare = then_put.puts.spare;
        room = then_put.puts.room;
        link_writes = then_put.puts.link_writes;
        hasher = then_put.puts.hasher;
      };
    }

module _ {K V : Type 0} where
  there-modified : (es : List (K × V)) (j : ℕ) (v w : V) → value_at es j ≡ Some v
      → value_at (set_value_at es j w) j ≡ Some w
  there-modified [] j v w at = absurd (cc)
  there-modified (x ∷ es) zero v w at = refl
  there-modified (x ∷ es) (suc j) v w at = there-modified es j v w at

module _ {K V S F : Type 0} (eq : K → K → Bool) where
  module _ (calls : Once F (MutBor V × Unit {0}) (Unit {0} × (MutBor V × Unit {0}))) (f : F) where
    module _ (m : MapState K V S) (k : K) where
      -- the entry of the key after its value was modified, by its place
      abbrev ModifiedAt : EntryState K V S → Option ℕ → Type 0
      ModifiedAt e o =
          MatchOption o (e ≡ entry_of eq m k)
          (λ j. (v : V) × (w : V) × (value_at m.entries j ≡ Some v) × FnOnceReturnsAtMut calls f v tt w
          × (e ≡ record (entry_of eq m k) { map = with_value m j w }))

      refuses-by-place : (o : Option ℕ) → place_of (eq k) m.entries ≡ o → (e : EntryState K V S)
          → ModifiedAt e o → (new : MapState K V S) (d : V) (pair : K × V)
          → RefusesEntry eq e.map new e.key d pair
          → RefusesEntry eq m new k d pair
      refuses-by-place None p e is new d pair r = subst (λ x. RefusesEntry eq x.map new x.key d pair) is r
      refuses-by-place (Some j) p e (v, w, at, ret, is) new d pair r =
          let s : RefusesEntry eq (with_value m j w) new k d pair =
          subst (λ x. RefusesEntry eq x.map new x.key d pair) is r in
          let absent : lookup (eq k) (set_value_at m.entries j w) ≡ None = s.may_refuse.absent in
          let there = lookup-modified eq m.entries k j p w in
          absurd (cc)

      -- goal: what a refused `or_insert` leaves after `and_modify`, by the map before both
      pub refuses_modified : (e0 e : EntryState K V S) → e0 ≡ entry_of eq m k → Modifies calls f e0 e
          → (new : MapState K V S) (d : V) (pair : K × V) → RefusesEntry eq e.map new e.key d pair
          → RefusesEntry eq m new k d pair
      refuses_modified e0 e is did new d pair r =
          refuses-by-place (place_of (eq k) m.entries) refl e
          (subst (λ x. Modifies calls f x e) is did) new d pair r

      inserts-by-place : (step : V → V) → ((x y : V) → FnOnceReturnsAtMut calls f x tt y → y ≡ step x)
          → (o : Option ℕ) → place_of (eq k) m.entries ≡ o → (e : EntryState K V S) → ModifiedAt e o
          → (new : MapState K V S) (u d : V) → u ≡ unwrap_or (entry_value e) d
          → PutsLast eq e.map new e.key u
          → PutsLast eq m new k (unwrap_or (option_map step (lookup (eq k) m.entries)) d)
      inserts-by-place step steps None p e is new u d gives s =
          let unplaced = lookup-unplaced (eq k) m.entries p in
          let value : u ≡ d =
          gives ∙ ap (λ x. unwrap_or (entry_value x) d) is
          ∙ ap (λ q. unwrap_or (option_and_then (value_at m.entries) q) d) p in
          subst (PutsLast eq m new k) (value ∙ sym (ap (λ q. unwrap_or (option_map step q) d) unplaced))
          (subst (λ x. PutsLast eq x.map new x.key u) is s)
      inserts-by-place step steps (Some j) p e (v, w, at, ret, is) new u d gives s =
          let placed = lookup-place (eq k) m.entries j p ∙ at in
          let value : u ≡ w =
          gives ∙ ap (λ x. unwrap_or (entry_value x) d) is
          ∙ ap (λ q. unwrap_or (option_and_then (value_at (set_value_at m.entries j w)) q) d) p
          ∙ ap (λ q. unwrap_or q d) (there-modified m.entries j v w at) in
          subst (PutsLast eq m new k)
          (value ∙ steps v w ret ∙ sym (ap (λ q. unwrap_or (option_map step q) d) placed))
          (puts_modified eq m new k j v w u p placed (subst (λ x. PutsLast eq x.map new x.key u) is s))

      -- goal: what `or_insert` leaves after `and_modify`, if its closure maps each value by `step`
      pub inserts_modified : (step : V → V) → ((x y : V) → FnOnceReturnsAtMut calls f x tt y → y ≡ step x)
          → (e0 e : EntryState K V S) → e0 ≡ entry_of eq m k → Modifies calls f e0 e
          → (new : MapState K V S) (u d : V) → u ≡ unwrap_or (entry_value e) d
          → PutsLast eq e.map new e.key u
          → PutsLast eq m new k (unwrap_or (option_map step (lookup (eq k) m.entries)) d)
      inserts_modified step steps e0 e is did new u d gives s =
          inserts-by-place step steps (place_of (eq k) m.entries) refl e
          (subst (λ x. Modifies calls f x e) is did) new u d gives s
