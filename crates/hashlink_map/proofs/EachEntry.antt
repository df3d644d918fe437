-- A property of each entry, through a change of a map's entries. The comment over each lemma names the goal
-- that it closes.
use Rattle.std.proofs.Common.{◌≡◌, ℕ, Bool, true, false, cond, List, [], ◌∷◌, Option, None, Some, Result, Ok}
use Rattle.std.proofs.Common.{Err, refl, sym, subst, zero, suc, take, drop}
use Rattle.std.proofs.lemmas.List.Elements.{All-cons, All-head, All-tail, All-same, All-append, All-take}
use Rattle.std.proofs.lemmas.List.Elements.{All-drop}
use Rattle.std.proofs.lemmas.Map.Entries.{place_from_lookup}
use Rattle.std.proofs.lemmas.Option.{none-some, same_Some}
use Rattle.std.specs.Map.{lookup, set_value, remove_entry}
use Rattle.std.specs.Option.{UnwrapsOrElse, option_map_or}
use Rattle.std.specs.Prelude.{slice_get, All, insert, remove}
use Rattle.hashlink_model.specs.Entries.{put, place_of, place_left, place_without, moved_at, moved_match}
use Rattle.hashlink_model.specs.Entries.{set_key_at, stored_key, without}
use Rattle.hashlink_model.specs.Entry.{value_at}
use Rattle.hashlink_model.specs.MapState.{MapState, Inserts}

module _ {K V : Type 0} (P : K × V → Type 0) where
  -- ---- a property of each entry, through a change of a list of entries

  -- goal: `All P (remove_entry test es)`, so `All P (without eq es k)`
  pub All-remove_entry : (test : K → Bool) (es : List (K × V)) → All P es → All P (remove_entry test es)
  All-remove_entry test [] a = a
  All-remove_entry test (e ∷ es) a = by (test e.0) (All-remove_entry test es (All-tail P e es a))
    where
      by : (b : Bool) → All P (remove_entry test es) → All P (cond b es (e ∷ remove_entry test es))
      by true h = All-tail P e es a
      by false h = All-cons P e (remove_entry test es) (All-head P e es a) h

  -- goal: `All P (insert es b e)`
  pub All-insert : (es : List (K × V)) (b : ℕ) (e : K × V) → P e → All P es → All P (insert es b e)
  All-insert es b e p a =
      All-append P (take b es) (e ∷ drop b es) (All-take P b es a)
      (All-cons P e (drop b es) p (All-drop P b es a))

  -- goal: `All P (put eq es k v b)`, as after an insert or a replace. If P depends only on values, the first
  -- premise is P of v
  pub All-put : (eq : K → K → Bool) (es : List (K × V)) (k : K) (v : V) (b : ℕ)
      → P (stored_key eq es k, v) → All P es
      → All P (put eq es k v b)
  All-put eq es k v b p a =
      All-insert (without eq es k) (place_without eq es k b) (stored_key eq es k, v) p
      (All-remove_entry (eq k) es a)

  -- goal: P of an entry at a given index
  pub All-at : (es : List (K × V)) (j : ℕ) (e : K × V) → slice_get es j ≡ Some e → All P es → P e
  All-at [] j e h a = absurd (none-some e h)
  All-at (x ∷ es) zero e h a = subst P (same_Some x e h) (All-head P x es a)
  All-at (x ∷ es) (suc j) e h a = All-at es j e h (All-tail P x es a)

  -- goal: P of the entry that a look-up finds, at a key that passes its test
  pub All-found : (test : K → Bool) (es : List (K × V)) (v : V) → lookup test es ≡ Some v → All P es
      → (k : K) × P (k, v) × (test k ≡ true)
  All-found test es v l a =
      let at = place_from_lookup test es v l in
      (at.1, All-at es at.0 (at.1, v) at.2 a, at.3)

  -- goal: P of what a use found or made, as by `get_or_insert_with`, at a key that equals only itself
  pub All-found_or_made : (test : K → Bool) (es : List (K × V)) (k : K) → ((q : K) → test q ≡ true → k ≡ q)
      → All P es → (Makes : V → Type 0) → ((v : V) → Makes v → P (k, v)) → (v : V)
      → UnwrapsOrElse (lookup test es) Makes v
      → P (k, v)
  All-found_or_made test es k only a Makes made v got = by (lookup test es) refl got
    where
      by : (o : Option V) → lookup test es ≡ o → UnwrapsOrElse o Makes v → P (k, v)
      by None l m = made v m
      by (Some w) l is =
          let found = All-found test es w l a in
          subst P (λ i. (sym (only found.0 found.2) i, sym is i)) found.1

  -- goal: `All P (moved_match test es b)`, so `All P (moved eq es k b)`, as after a move or a hit of a
  -- cache's `get`
  pub All-moved_match : (test : K → Bool) (es : List (K × V)) (b : ℕ) → All P es
      → All P (moved_match test es b)
  All-moved_match test es b a = by (place_of test es)
    where
      at : (j : ℕ) (o : Option (K × V)) → slice_get es j ≡ o
          → All P (option_map_or (λ e. insert (remove es j) (place_left j b) e) o es)
      at j None h = a
      at j (Some e) h =
          All-insert (remove es j) (place_left j b) e (All-at es j e h a)
          (All-append P (take j es) (drop (suc j) es) (All-take P j es a) (All-drop P (suc j) es a))

      by : (o : Option ℕ) → All P (option_map_or (λ j. moved_at es j b) o es)
      by None = a
      by (Some j) = at j (slice_get es j) refl

  -- goal: `All P (set_value test es w)`, as after a replace or a write through a loan
  pub All-set_value : (test : K → Bool) (es : List (K × V)) (w : V)
      → ((k : K) → test k ≡ true → P (k, w)) → All P es
      → All P (set_value test es w)
  All-set_value test [] w p a = a
  All-set_value test (e ∷ es) w p a = by (test e.0) refl (All-set_value test es w p (All-tail P e es a))
    where
      by : (b : Bool) → test e.0 ≡ b → All P (set_value test es w)
          → All P (cond b ((e.0, w) ∷ es) (e ∷ set_value test es w))
      by true t h = All-cons P (e.0, w) es (p e.0 t) (All-tail P e es a)
      by false t h = All-cons P e (set_value test es w) (All-head P e es a) h

  -- ---- the same through a step, whatever the call returns

  module _ {S : Type 0} (eq : K → K → Bool) (old new : MapState K V S) (k : K) (v : V) where
    -- goal: `All P` of a map's entries after `insert`, `insert_front` or a cursor's insert
    pub All-inserts : (b : ℕ) (r : Result (Option V) (K × V)) → Inserts eq old new k v b r
        → P (stored_key eq old.entries k, v) → All P old.entries
        → All P new.entries
    All-inserts b (Ok None) s p a = All-same P new.entries _ s.adds.entries (All-put eq old.entries k v b p a)
    All-inserts b (Ok (Some w)) s p a = All-same P new.entries _ s.puts.entries
        (All-put eq old.entries k v b p a)
    All-inserts b (Err pair) s p a = All-same P new.entries _ s.grows.entries a

module _ {K V : Type 0} where
  -- goal: `All P` once the key at a place was replaced
  pub All-set_key_at : (P : K × V → Type 0) (es : List (K × V)) (j : ℕ) (k : K)
      → ((v : V) → value_at es j ≡ Some v → P (k, v)) → All P es
      → All P (set_key_at es j k)
  All-set_key_at P [] j k p a = a
  All-set_key_at P (e ∷ es) zero k p a = All-cons P (k, e.1) es (p e.1 refl) (All-tail P e es a)
  All-set_key_at P (e ∷ es) (suc j) k p a =
      All-cons P e (set_key_at es j k) (All-head P e es a)
      (All-set_key_at P es j k p (All-tail P e es a))
