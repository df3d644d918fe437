-- The place of a node after a step at it, and several steps in sequence.
use Rattle.hashlink_map.proofs.Names
use Names.{[], ◌∷◌, ap₂, ◌++◌, length-append, ◌≡◌, ℕ, ◌+◌, ◌-◌, ◌≤◌, Bool, true, List, length, None, Some}
use Names.{refl, sym, ap, subst, ◌∙◌, arith, slice_get, insert, remove, unwrap_or, Result, Ok, Err, IfOk}
use Names.{IfErr, OnErr, MatchOption, option_map, IsEquivalence, lookup, slice_get-map}
use Names.{length-values_of, place_of, place_left, moved_at, put, stored_key, set_value_at, MapState}
use Names.{AddsEntry, PutsEntry, MovesAt, RoomFor, with_value, key_at, value_at, VacantInserts}
use Names.{split_at, slice_get_here, set_value_at-here, moved_at-last, moved_at-put, lookup_key_is}
use Names.{put-absent, Keyed, entries_of, state_of, HoldsKey, EqualsKeyAt, IsKeyed, Node, Holds, place_number}
use Names.{renewed_at, with_value_at, AddsNode, GrowsRoom, number-at, holds-at, holds_key-at, equals-stored}
use Names.{values-renewed_value, IsNodeAt, node-at, renewed_at-is, StaysHeld, added, refused, lookup-place}
use Names.{lookup_entry-place, none_passes_from_place, some_from_part}
use Rattle.hashlink_model.proofs.Splits.{none_from_lookup, stands_from_place, lookup_entry-none}
use Rattle.hashlink_core.proofs.Edits.{length-inserted, length-removed, slice_get-inserted, moved_at-is}
use Rattle.hashlink_core.proofs.Edits.{place_left-before, place_left-past, passes-at}

module _ {K V S : Type 0} {eq : K → K → Bool} (laws : IsEquivalence eq) where
  -- ---- a step at a node that the map has

  module _ (old new : Keyed K V S) (sound : IsKeyed eq new) (n : Node) (held : Holds old.nodes n) where
    pub stood : (e : K × V) × IsNodeAt old.nodes n e
    stood = node-at old.nodes n held

    -- the key that it holds
    key-equal : (k : K) → HoldsKey eq old.nodes k n → eq k stood.0.0 ≡ true
    key-equal k h = passes-at (eq k) (entries_of old) (place_number old.nodes (Some n)) stood.0 h.place
        (slice_get-map (λ (x : Node × (K × V)). x.1) old.nodes (place_number old.nodes (Some n))
        ∙ ap (option_map (λ x. x.1)) stood.1.at)

    stays : (p : ℕ) (e : K × V) → slice_get new.nodes p ≡ Some (n, e)
        → ((k : K) → eq k stood.0.0 ≡ true → eq k e.0 ≡ true)
        → StaysHeld eq old new n p
    stays p e at same = record {
      within = holds-at laws new sound n p e at;
      place = number-at laws new sound n p e at;
      keys = λ k h. holds_key-at laws new sound n p e at k (same k (key-equal k h));
    }

    fewer : length (remove old.nodes (place_number old.nodes (Some n))) + 1 ≡ length old.nodes
    fewer = length-removed old.nodes (place_number old.nodes (Some n)) (n, stood.0) stood.1.at

    moved-to : (b p : ℕ) → place_left (place_number old.nodes (Some n)) b ≡ p → p + 1 ≤ length old.nodes
        → new.nodes ≡ moved_at old.nodes (place_number old.nodes (Some n)) b
        → StaysHeld eq old new n p
    moved-to b p left within is =
        let j = place_number old.nodes (Some n) in
        stays p stood.0
        (ap (λ ns. slice_get ns p)
        (is ∙ moved_at-is old.nodes j b (n, stood.0) stood.1.at
        ∙ ap (λ i. insert (remove old.nodes j) i (n, stood.0)) left)
        ∙ slice_get-inserted (remove old.nodes j) p (n, stood.0) (omega (arith, fewer, within)))
        (λ k t. t)

    -- to the end, and to the front
    pub stays-last : new.nodes ≡ moved_at old.nodes (place_number old.nodes (Some n)) (length old.nodes)
        → StaysHeld eq old new n (length (entries_of old) - 1)
    stays-last is =
        let below = stood.1.within in
        rw (length-values_of old.nodes)
        (moved-to (length old.nodes) (length old.nodes - 1)
        (place_left-before (place_number old.nodes (Some n)) (length old.nodes) below)
        (omega (arith, below)) is)

    pub stays-first : new.nodes ≡ moved_at old.nodes (place_number old.nodes (Some n)) 0
        → StaysHeld eq old new n 0
    stays-first =
        moved-to 0 0 (place_left-past (place_number old.nodes (Some n)) 0 (omega arith))
        (omega (arith, stood.1.within))

    -- with a new pair
    pub stays-renewed : (f : K × V → K × V) → ((k : K) → eq k stood.0.0 ≡ true → eq k (f stood.0).0 ≡ true)
        → new.nodes ≡ renewed_at f old.nodes (place_number old.nodes (Some n))
        → StaysHeld eq old new n (place_number old.nodes (Some n))
    stays-renewed f same is =
        let j = place_number old.nodes (Some n) in
        let below = stood.1.within in
        stays j (f stood.0)
        (ap (λ ns. slice_get ns j) (is ∙ renewed_at-is f old.nodes j (n, stood.0) stood.1.at)
        ∙ slice_get-inserted (remove old.nodes j) j (n, f stood.0) (omega (arith, fewer, below)))
        same

    -- a key that equals the stored one equals whatever the stored one equals
    pub same-keys : (key : K) → EqualsKeyAt eq (entries_of old) (place_number old.nodes (Some n)) key
        → (k : K) → eq k stood.0.0 ≡ true
        → eq k key ≡ true
    unfolding stood
    same-keys key h k t =
        laws.symm k key ∙ laws.congr key stood.0.0 k (equals-stored eq old n key held h)
        ∙ laws.symm stood.0.0 k ∙ t

-- ---- steps in sequence

module _ {K V S : Type 0} {eq : K → K → Bool} (a b c : Keyed K V S) (n : Node) where
  pub stays_twice : (p q : ℕ) → StaysHeld eq a b n p → StaysHeld eq b c n q → StaysHeld eq a c n q
  stays_twice p q s t = record { within = t.within; place = t.place; keys = λ k h. t.keys k (s.keys k h) }

-- ---- a pair that is put last

module _ {K V S : Type 0} {eq : K → K → Bool} (laws : IsEquivalence eq)
    (old new : Keyed K V S) (k : K) (v : V) (absent : place_of (eq k) (entries_of old) ≡ None) where
  pub pushes : (r : Result Node (K × V)) → IfOk r (λ n. AddsNode old new (length old.nodes) n k v)
      → IfErr r (λ p. p ≡ (k, v)) → OnErr r (GrowsRoom 1 old new)
      → OnErr r (old.spare ≡ 0)
      → VacantInserts eq (state_of old) (state_of new) k v r
  pushes (Ok n) went_in back grown none =
      added eq old new k v _ _ n (sym (length-values_of old.nodes)) absent went_in
  pushes (Err p) went_in back grown none = refused eq old new k v p absent none back grown

  module _ (sound : IsKeyed eq new) where
    stands_last : (n : Node) → AddsNode old new (length old.nodes) n k v
        → slice_get new.nodes (length old.nodes) ≡ Some (n, (k, v))
    stands_last n s =
        ap (λ ns. slice_get ns (length old.nodes)) s.nodes
        ∙ slice_get-inserted old.nodes (length old.nodes) (n, (k, v)) (omega arith)

    pub pushed-holds : (r : Result Node (K × V)) → IfOk r (λ n. AddsNode old new (length old.nodes) n k v)
        → IfOk r (HoldsKey eq new.nodes k)
    pushed-holds (Ok n) added =
        holds_key-at laws new sound n (length old.nodes) (k, v) (stands_last n added) k (laws.refl k)
    pushed-holds (Err p) added = tt

    pub pushed-place : (r : Result Node (K × V)) → IfOk r (λ n. AddsNode old new (length old.nodes) n k v)
        → IfOk r (λ n. place_number new.nodes (Some n) ≡ length (entries_of old))
    pushed-place (Ok n) added =
        number-at laws new sound n (length old.nodes) (k, v) (stands_last n added)
        ∙ sym (length-values_of old.nodes)
    pushed-place (Err p) added = tt

-- what was written as the value of a pair that was put last
module _ {K V S : Type 0} {eq : K → K → Bool} (laws : IsEquivalence eq) (old mid : MapState K V S)
    (k : K) (v : V) where
  last-written : (es : List (K × V)) (w : V)
      → set_value_at (insert es (length es) (k, v)) (length es) w ≡ insert es (length es) (k, w)
  last-written [] w = refl
  last-written (e ∷ es) w = ap (λ r. e ∷ r) (last-written es w)

  adds-rewritten : AddsEntry eq old mid k v (length old.entries) → (w : V)
      → AddsEntry eq old (with_value mid (length old.entries) w) k w (length old.entries)
  adds-rewritten s w =
      let none = none_from_lookup (eq k) old.entries s.absent in
      let at_end : (u : V)
      → put eq old.entries k u (length old.entries) ≡ insert old.entries (length old.entries) (k, u)
      = λ u. put-absent eq old.entries k u (length old.entries) none in
      let is : set_value_at mid.entries (length old.entries) w ≡ put eq old.entries k w (length old.entries) =
      ap (λ es. set_value_at es (length old.entries) w) (s.adds.entries ∙ at_end v)
      ∙ last-written old.entries w
      ∙ sym (at_end w) in
      let long : length (put eq old.entries k w (length old.entries))
      ≡ length (put eq old.entries k v (length old.entries))
      = ap length (at_end w) ∙ length-inserted _ _ _ ∙ sym (length-inserted _ _ (k, v))
      ∙ sym (ap length (at_end v)) in
      let kept : length (set_value_at mid.entries (length old.entries) w) ≡ length mid.entries
      = ap length is ∙ long ∙ sym (ap length s.adds.entries) in
      record {
        absent = s.absent;
        adds = record {
          entries = is;
          more = long ∙ s.adds.more;
          spare = s.adds.spare;
          room = subst (λ l. RoomFor l old.room mid.room) (sym long) s.adds.room;
          fits = omega (arith, s.adds.fits, kept);
          link_writes = s.adds.link_writes;
          hasher = s.adds.hasher;
        };
      }

  pub adds-rewritten-at : (j : ℕ) (new : MapState K V S) (w : V)
      → AddsEntry eq old mid k v (length old.entries)
      → j ≡ length old.entries → new ≡ with_value mid j w
      → AddsEntry eq old new k w (length old.entries)
  adds-rewritten-at j new w s place is =
      subst (λ m. AddsEntry eq old m k w (length old.entries)) (sym (is ∙ ap (λ i. with_value mid i w) place))
      (adds-rewritten s w)

module _ {K V S : Type 0} {eq : K → K → Bool} (laws : IsEquivalence eq) (old : MapState K V S)
    (new : Keyed K V S) (k : K) (v : V) (n : Node) where
  pub adds-written : AddsEntry eq old (state_of new) k v (length old.entries)
      → place_number new.nodes (Some n) ≡ length old.entries → (w : V)
      → AddsEntry eq old (state_of (with_value_at new n w)) k w (length old.entries)
  adds-written s place w =
      let j = place_number new.nodes (Some n) in
      adds-rewritten-at laws old (state_of new) k v j (state_of (with_value_at new n w)) w s place
      (ap (λ es. record (state_of new) { entries = es }) (values-renewed_value new.nodes j w))

  -- and the pair at its place before that
  added-pair : AddsEntry eq old (state_of new) k v (length old.entries)
      → place_number new.nodes (Some n) ≡ length old.entries
      → slice_get (entries_of new) (place_number new.nodes (Some n)) ≡ Some (k, v)
  added-pair s place =
      let none = none_from_lookup (eq k) old.entries s.absent in
      ap₂ slice_get (s.adds.entries ∙ put-absent eq old.entries k v (length old.entries) none) place
      ∙ slice_get-inserted old.entries (length old.entries) (k, v) (omega arith)

  pub added-value : AddsEntry eq old (state_of new) k v (length old.entries)
      → place_number new.nodes (Some n) ≡ length old.entries
      → (u : V)
      → value_at (entries_of new) (place_number new.nodes (Some n)) ≡ Some u → u ≡ v
  added-value s place u at =
      let there : value_at (entries_of new) (place_number new.nodes (Some n)) ≡ Some v
      = ap (option_map (λ e. e.1)) (added-pair s place) in
      cc

  pub added-parts : AddsEntry eq old (state_of new) k v (length old.entries)
      → place_number new.nodes (Some n) ≡ length old.entries
      → (e : K × V)
      → slice_get (entries_of new) (place_number new.nodes (Some n)) ≡ Some e → (e.0 ≡ k) × (e.1 ≡ v)
  added-parts s place e at =
      let there : Some (k, v) ≡ Some e = sym (added-pair s place) ∙ at in
      let same : (k, v) ≡ e = cc in
      (ap (λ p. p.0) (sym same), ap (λ p. p.1) (sym same))

module _ {K V : Type 0} where
  -- the entry that moved to the end is the last
  pub last-moved : (es : List (K × V)) (j : ℕ) (e : K × V) → slice_get es j ≡ Some e
      → slice_get (moved_at es j (length es)) (length es - 1) ≡ Some e
  last-moved es j e at =
      let s = split_at es j e at in
      let fewer : length (s.0 ++ e ∷ s.1) - 1 ≡ length (s.0 ++ s.1)
      = omega (arith, length-append s.0 (e ∷ s.1), length-append s.0 s.1) in
      ap₂ (λ zs i. slice_get (moved_at zs i (length zs)) (length zs - 1)) s.2 (sym s.3)
      ∙ ap₂ slice_get (moved_at-last s.0 e s.1) fewer ∙ slice_get_here (s.0 ++ s.1) e []

  -- a value that is written after the move to the end is a value that moved there
  pub moved-written : (es : List (K × V)) (j : ℕ) (e : K × V) (w : V) → slice_get es j ≡ Some e
      → set_value_at (moved_at es j (length es)) (length es - 1) w
      ≡ moved_at (set_value_at es j w) j (length es)
  moved-written es j e w at =
      let s = split_at es j e at in
      let xs = s.0 in
      let ys = s.1 in
      let fewer : length (xs ++ e ∷ ys) - 1 ≡ length (xs ++ ys)
      = omega (arith, length-append xs (e ∷ ys), length-append xs ys) in
      let long : length (xs ++ e ∷ ys) ≡ length (xs ++ (e.0, w) ∷ ys)
      = omega (arith, length-append xs (e ∷ ys), length-append xs ((e.0, w) ∷ ys)) in
      ap₂ (λ zs i. set_value_at (moved_at zs i (length zs)) (length zs - 1) w) s.2 (sym s.3)
      ∙ ap₂ (λ zs i. set_value_at zs i w) (moved_at-last xs e ys) fewer ∙ set_value_at-here (xs ++ ys) e [] w
      ∙ sym (ap₂ (λ zs i. moved_at zs (length xs) i) (set_value_at-here xs e ys w) long
      ∙ moved_at-last xs (e.0, w) ys)
      ∙ ap₂ (λ zs i. moved_at (set_value_at zs i w) i (length zs)) (sym s.2) s.3

-- a node whose key is k moved to the end, and then w was written there
module _ {K V S : Type 0} (eq : K → K → Bool) (old : MapState K V S) (mid : Keyed K V S) (k : K) (j : ℕ)
    (p : place_of (eq k) old.entries ≡ Some j) (n : Node) where
  pub puts-moved : MovesAt old (state_of mid) j (length old.entries)
      → place_number mid.nodes (Some n) ≡ length old.entries - 1 → (v w : V)
      → value_at old.entries j ≡ Some v
      → PutsEntry eq old (state_of (with_value_at mid n w)) k w (length old.entries) v
  puts-moved s place v w was =
      let o = some_from_part (slice_get old.entries j) v was in
      record {
        old_value = lookup-place (eq k) old.entries j p ∙ was;
        puts = record {
          entries =
              values-renewed_value mid.nodes (place_number mid.nodes (Some n)) w
              ∙ ap₂ (λ zs i. set_value_at zs i w) s.entries place
              ∙ moved-written old.entries j o.0 w o.1
              ∙ moved_at-put eq old.entries k j p w (length old.entries);
          spare = s.spare;
          room = s.room;
          link_writes = s.link_writes;
          hasher = s.hasher;
        };
      }

  -- the value at its old place
  stood-there : (v : V) × (value_at old.entries j ≡ Some v)
  stood-there =
      let s = stands_from_place (eq k) old.entries j p in
      (s.1.1, ap₂ value_at s.3.is (sym s.4) ∙ ap (option_map (λ e. e.1)) (slice_get_here s.0 s.1 s.2))

  module _ (s : MovesAt old (state_of mid) j (length old.entries))
      (place : place_number mid.nodes (Some n) ≡ length old.entries - 1) where
    -- what an insert at the end of w would leave
    pub moves-and-writes : (w : V)
        → MatchOption (lookup (eq k) old.entries)
        (AddsEntry eq old (state_of (with_value_at mid n w)) k w (length old.entries))
        (PutsEntry eq old (state_of (with_value_at mid n w)) k w (length old.entries))
    moves-and-writes w =
        rw (lookup-place (eq k) old.entries j p ∙ stood-there.1)
        (puts-moved s place stood-there.0 w stood-there.1)

    pub moved-value : (u : V) → value_at (entries_of mid) (place_number mid.nodes (Some n)) ≡ Some u
        → value_at old.entries j ≡ Some u
    moved-value u at =
        let o = some_from_part (slice_get old.entries j) stood-there.0 stood-there.1 in
        ap (option_map (λ e. e.1)) (o.1 ∙ sym (last-moved old.entries j o.0 o.1))
        ∙ sym (ap₂ value_at s.entries place)
        ∙ at

-- the key object that the list has for a key: for one that is present, and for one that is absent
module _ {K V : Type 0} (eq : K → K → Bool) (es : List (K × V)) (k : K) where
  pub stored-there : (j : ℕ) → place_of (eq k) es ≡ Some j → (s : K) → key_at es j ≡ Some s
      → s ≡ stored_key eq es k
  stored-there j p s at =
      sym
      (ap (λ o. unwrap_or o k)
      (lookup_key_is (eq k) es ∙ ap (option_map (λ e. e.0)) (lookup_entry-place (eq k) es j p) ∙ at))

  pub stored-absent : place_of (eq k) es ≡ None → k ≡ stored_key eq es k
  stored-absent p =
      sym
      (ap (λ o. unwrap_or o k)
      (lookup_key_is (eq k) es
      ∙ ap (option_map (λ e. e.0)) (lookup_entry-none (eq k) es (none_passes_from_place (eq k) es p))))
