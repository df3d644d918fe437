-- What the calls of the keyed list leave, from the clauses of the ring and of the table.
use Rattle.hashlink_core.proofs.Names
use Names.{◌≡◌, Result, Ok, Err, OnErr, ℕ, ◌+◌, ◌-◌, ◌≤◌, Bool, true, List, ◌∷◌, ◌++◌, length, drop, Option}
use Names.{None, Some, refl, ap, ap₂, sym, subst, ◌∙◌, arith, slice_get, insert, remove, IsPermutation}
use Names.{IsDistinct, option_map, IsEquivalence, lookup, remove_entry, set_value, keys_of, values_of}
use Names.{NonePasses, lookup-none, length-values_of, following_place, preceding_place, place_of, moved_at}
use Names.{place_left, Node, Entry, same_node, same_node_equiv, Holds, IsPlace, next_place, prev_place, Ring}
use Names.{held, pair_of, with_value, with_key, MovesBefore, MovesAfter, put_before, Contents, len_of, Keyed}
use Names.{nodes_of, pairs_in, entries_of, state_of, keyed, seen_as, pair_with_value, pair_with_key, IsKeyed}
use Names.{HoldsKey, with_value_at, place_number, IsPlaceAt, renewed_at, AddsNode, RemovesNode, MovesNode}
use Names.{WritesNode, SetsNodeKey, GrowsRoom, IsInStep, short, insert-map, remove-map, length-inserted}
use Names.{length-removed, moved-map, remove_entry-at, moved_at-is, none-inserted, passes-at}
use Names.{keys_of-map_values, lookup-map_values, IsNodeAt, node-at, put_before-at, set_value-at}
use Names.{renewed_at-is, moves_before-at, moves_after-at, same-number, same-place}
use Rattle.hashlink_core.proofs.Mapped.{length-mapped, remove_entry-mapped, place_number-mapped}
use Rattle.hashlink_core.proofs.Mapped.{renewed-mapped, values-renewed_value, values-renewed_key}
use Rattle.hashlink_core.proofs.Neighbours.{distinct-left, next-number, prev-number}
use Rattle.hashlink_core.proofs.Stepping.{pair-at, length-pairs, step-in, step-out, step-renewed, kept}
use Rattle.hashlink_core.proofs.{Steps.none_passes_from_place, Walk.{after-number, before-number}}
use Rattle.std.{proofs.Common.{OnOk, length-drop}, specs.Option.{option_map_or, IfSome}}
use Rattle.std.specs.Prelude.{IfNone, ◌<◌}
use Rattle.hashlink_model.specs.MapState.{Changes, StoresAtMost}
use Rattle.hashlink_nodes.specs.NodesLends.{with_value_at as ring_with_value_at}

pub on_err : {A E : Type 0} (r : Result A E) (P : Type 0) → P → OnErr r P
on_err (Ok x) P p = tt
on_err (Err e) P p = p

-- a step that stored n links stored at most n
stores-exactly : (n old new : ℕ) → new ≡ old + n → StoresAtMost n old new
stores-exactly n old new is = record { grows = omega (arith, is); bound = omega (arith, is) }

or-some : {X Y : Type 0} (f : X → Y) (d : Y) (o : Option X) → IfSome o (λ x. option_map_or f o d ≡ f x)
or-some f d None = tt
or-some f d (Some x) = refl

-- a list is sound if its ring and its table are in step
module _ {K V S : Type 0} {eq : K → K → Bool} {hash : K → ℕ} {s : S} {r : Ring K V} {t : Contents Node} where
  pub sound : {seen : Keyed K V S} → seen_as r t s ≡ seen → IsInStep eq hash r t → IsKeyed eq seen
  sound view step = subst (IsKeyed eq) view (record {
    distinct = step.distinct;
    apart = subst (IsDistinct same_node) (sym (keys_of-map_values pair_of r.entries)) step.apart;
    fits = omega (arith, step.fits, length-pairs r.entries);
  })

-- the list with the ring r and the table t inside is seen as `seen`
module _ {K V S : Type 0} {eq : K → K → Bool} (laws : IsEquivalence eq) {hash : K → ℕ} {s : S} {r : Ring K V}
    {t : Contents Node} {seen : Keyed K V S} (view : seen_as r t s ≡ seen) (step : IsInStep eq hash r t) where
  nodes-seen : nodes_of r.entries ≡ seen.nodes
  nodes-seen = ap (λ m. m.nodes) view

  -- the nodes, as they are in the ring
  keys-inside : keys_of seen.nodes ≡ keys_of r.entries
  keys-inside = ap keys_of (sym nodes-seen) ∙ keys_of-map_values pair_of r.entries

  number-inside : (p : Option Node) → place_number seen.nodes p ≡ place_number r.entries p
  number-inside p = same-number seen.nodes r.entries p keys-inside

  pub place-inside : (p : Option Node) → IsPlace seen.nodes p → IsPlace r.entries p
  place-inside p = same-place seen.nodes r.entries p keys-inside

  -- a place of the list without the node n
  pub rest-inside : (n : Node) (p : Option Node) → IsPlace (remove_entry (same_node n) seen.nodes) p
      → IsPlace (remove_entry (same_node n) r.entries) p
  rest-inside n p =
      same-place (remove_entry (same_node n) seen.nodes) (remove_entry (same_node n) r.entries) p
      (ap (λ ns. keys_of (remove_entry (same_node n) ns)) (sym nodes-seen)
      ∙ ap keys_of (sym (remove_entry-mapped pair_of (same_node n) r.entries))
      ∙ keys_of-map_values pair_of (remove_entry (same_node n) r.entries))

  -- the place that the ring returns
  pub next-inside : (p q : Option Node) → IsPlace seen.nodes p → q ≡ next_place (keys_of r.entries) p
      → IsPlaceAt seen.nodes q (following_place (length seen.nodes) (place_number seen.nodes p))
  next-inside p q within is = rw (is, ← keys-inside) (next-number seen.nodes (sound view step).apart p within)

  pub prev-inside : (p q : Option Node) → IsPlace seen.nodes p → q ≡ prev_place (keys_of r.entries) p
      → IsPlaceAt seen.nodes q (preceding_place (length seen.nodes) (place_number seen.nodes p))
  prev-inside p q within is = rw (is, ← keys-inside) (prev-number seen.nodes (sound view step).apart p within)

  -- a step that leaves the number of free nodes unchanged
  changed : (s' : Ring K V) (es : List (K × V)) (n : ℕ) → pairs_in s'.entries ≡ es → s'.free ≡ r.free
      → s'.link_writes ≡ r.link_writes + n
      → Changes (state_of seen) (state_of (seen_as s' t s)) es n
  changed s' es n is free stored = record {
    entries = is;
    spare = ap length free ∙ ap (λ m. m.spare) view;
    room = ap (λ m. m.room) view;
    link_writes = stores-exactly n _ _ (stored ∙ ap (λ m. m.link_writes + n) view);
    hasher = ap (λ m. m.hasher) view;
  }

  module _ (n : Node) (within : Holds seen.nodes n) where
    pub held-inside : Holds r.entries n
    held-inside = place-inside (Some n) within

    -- its place, in the ring and in the list
    abbrev i : ℕ
    i = place_number r.entries (Some n)

    abbrev j : ℕ
    j = place_number seen.nodes (Some n)

    same-here : i ≡ j
    same-here = sym (number-inside (Some n))

    -- what the node holds, and its place
    at : (h : Entry K V) × IsNodeAt r.entries n h
    at = node-at r.entries n held-inside

    -- the node after it, and the node before it
    pub after-inside : (q : Node) → IfSome (next_place (keys_of r.entries) (Some n)) (λ m. q ≡ m)
        → IfNone (next_place (keys_of r.entries) (Some n)) (lookup (same_node q) r.entries ≡ None)
        → place_number seen.nodes (Some q) ≡ place_number seen.nodes (Some n) + 1
    after-inside q same absent =
        let next = after-number r.entries step.apart n q held-inside same absent in
        omega (arith, number-inside (Some q), next, same-here)

    pub before-inside : (q : Node) → IfSome (prev_place (keys_of r.entries) (Some n)) (λ m. q ≡ m)
        → 0 < place_number seen.nodes (Some n)
        → place_number seen.nodes (Some q) + 1 ≡ place_number seen.nodes (Some n)
    before-inside q same later =
        let prev = before-number r.entries step.apart n q held-inside same
        (omega (arith, later, same-here)) in
        omega (arith, number-inside (Some q), prev, same-here)

    pub stored : slice_get (entries_of seen) j ≡ option_map pair_of (lookup (same_node n) r.entries)
    stored = ap₂ (λ ns k. slice_get (values_of ns) k) (sym nodes-seen) (sym same-here)
        ∙ pair-at r.entries i n at.0 at.1.at ∙ sym (ap (option_map pair_of) at.1.found)

    -- a part of what it holds
    pub part-stored : {Y : Type 0} (f : Entry K V → Y) (g : K × V → Y)
        → ((h : Entry K V) → f h ≡ g (pair_of h)) → (y : Y)
        → option_map f (lookup (same_node n) r.entries) ≡ Some y
        → option_map g (slice_get (entries_of seen) j) ≡ Some y
    part-stored f g same y is =
        let held : f at.0 ≡ y = cc (sym (ap (option_map f) at.1.found) ∙ is) in
        ap (option_map g) (stored ∙ ap (option_map pair_of) at.1.found) ∙ ap Some (sym (same at.0) ∙ held)

    -- ---- the node was taken out of the table, and then out of the ring
    module _ (s' : Ring K V) (u : Contents Node) (number : ℕ)
        (numbered : option_map (λ h. h.number) (lookup (same_node n) r.entries) ≡ Some number)
        (left : IsPermutation t.nodes (kept number n ∷ u.nodes)) (room : u.room ≡ t.room)
        (removed : s'.entries ≡ remove_entry (same_node n) r.entries) (freed : s'.free ≡ n ∷ r.free) where
      gone : s'.entries ≡ remove r.entries i
      gone = removed ∙ remove_entry-at same_node r.entries n

      pub removed-step : IsInStep eq hash s' u
      removed-step =
          let same : number ≡ at.0.number =
          cc (sym (ap (option_map (λ h. h.number)) at.1.found) ∙ numbered) in
          step-out laws r s' t n at.0 i step at.1.at u gone (omega (arith, ap length freed))
          (subst (λ k. IsPermutation t.nodes (kept k n ∷ u.nodes)) same left) room

      pub removed-node : s'.link_writes ≡ r.link_writes + 3 → RemovesNode seen (seen_as s' u s) j
      removed-node more =
          let nodes : nodes_of s'.entries ≡ remove seen.nodes j =
          ap nodes_of gone ∙ remove-map (λ (e : Node × Entry K V). (e.0, pair_of e.1)) r.entries i
          ∙ ap₂ remove nodes-seen same-here in
          record {
            nodes = nodes;
            state = record {
              entries = ap values_of nodes ∙ remove-map (λ e. e.1) seen.nodes j;
              fewer = length-removed (entries_of seen) j (pair_of at.0)
                  (stored ∙ ap (option_map pair_of) at.1.found);
              spare = omega (arith, ap length freed, ap (λ m. m.spare) view);
              room = room ∙ ap (λ m. m.room) view;
              link_writes = stores-exactly 3 _ _ (more ∙ ap (λ m. m.link_writes + 3) view);
              hasher = ap (λ m. m.hasher) view;
            };
          }

    -- ---- the node moved to the place b, directly before or directly after another one
    module _ (s' : Ring K V) (free : s'.free ≡ r.free) (more : s'.link_writes ≡ r.link_writes + 6) where
      moved : (b : ℕ) → s'.entries ≡ moved_at r.entries i b
          → IsInStep eq hash s' t × MovesNode seen (seen_as s' t s) j b
      moved b to =
          let nodes : nodes_of s'.entries ≡ moved_at seen.nodes j b =
          ap nodes_of to ∙ moved-map (λ (e : Node × Entry K V). (e.0, pair_of e.1)) r.entries i b
          ∙ ap₂ (λ ns k. moved_at ns k b) nodes-seen same-here in (
            step-renewed laws r s' t n at.0 at.0 i (place_left i b) step at.1.at
                (to ∙ moved_at-is r.entries i b (n, at.0) at.1.at) refl (laws.refl at.0.key) refl
                (ap length free),
            record {
              nodes = nodes;
              state = changed s' _ 6 (ap values_of nodes ∙ moved-map (λ e. e.1) seen.nodes j b) free more;
            },
          )

      module _ (p : Option Node) (place : IsPlace (remove_entry (same_node n) seen.nodes) p) where
        pub moved-before : MovesBefore r.entries n p s'.entries
            → IsInStep eq hash s' t × MovesNode seen (seen_as s' t s) j (place_number seen.nodes p)
        moved-before m = moved (place_number seen.nodes p) (rw (number-inside p)
            (moves_before-at r.entries n p step.apart held-inside (rest-inside n p place) s'.entries m))

        pub moved-after : MovesAfter r.entries n p s'.entries → IsInStep eq hash s' t
            × MovesNode seen (seen_as s' t s) j
            (following_place (length seen.nodes) (place_number seen.nodes p))
        moved-after m = moved _ (rw (number-inside p, number-inside None)
            (moves_after-at r.entries n p step.apart held-inside (rest-inside n p place) s'.entries m))

    -- ---- its entry was changed in place
    module _ (s' : Ring K V) (f : Entry K V → Entry K V) (set : IfSome (lookup (same_node n) r.entries)
        (λ h. s'.entries ≡ set_value (same_node n) r.entries (f h))) (free : s'.free ≡ r.free) where
      renewed : s'.entries ≡ renewed_at f r.entries i
      renewed = (rw at.1.found at set) ∙ set_value-at f r.entries n at.0 at.1.found

      renewed-step : ((h : Entry K V) → (f h).number ≡ h.number)
          → ((h : Entry K V) → lookup (same_node n) r.entries ≡ Some h → (eq h.key (f h).key ≡ true)
          × (hash (f h).key ≡ hash h.key)) → IsInStep eq hash s' t
      renewed-step number key =
          step-renewed laws r s' t n at.0 (f at.0) i i step at.1.at
          (renewed ∙ renewed_at-is f r.entries i (n, at.0) at.1.at) (number at.0)
          (key at.0 at.1.found).0 (key at.0 at.1.found).1 (ap length free)

      renewed-nodes : (g : K × V → K × V) → ((h : Entry K V) → pair_of (f h) ≡ g (pair_of h))
          → nodes_of s'.entries ≡ renewed_at g seen.nodes j
      renewed-nodes g same = ap nodes_of renewed ∙ renewed-mapped pair_of f g same r.entries i
          ∙ ap₂ (renewed_at g) nodes-seen same-here

    -- its value now is v
    pub value-written : (s' : Ring K V) (v : V) → IfSome (lookup (same_node n) r.entries)
        (λ h. s'.entries ≡ set_value (same_node n) r.entries (with_value h v))
        → s'.free ≡ r.free → s'.link_writes ≡ r.link_writes
        → IsInStep eq hash s' t × WritesNode seen (seen_as s' t s) j v
    value-written s' v set free none =
        let nodes = renewed-nodes s' (λ h. with_value h v) set free (pair_with_value v) (λ h. refl) in (
          renewed-step s' (λ h. with_value h v) set free (λ h. refl) (λ h is. (laws.refl h.key, refl)),
          record {
            nodes = nodes;
            state = changed s' _ 0 (ap values_of nodes ∙ values-renewed_value seen.nodes j v) free
                (omega (arith, none));
          },
        )

    -- its key now is the equal k
    pub key-written : (s' : Ring K V) (k : K) → IfSome (lookup (same_node n) r.entries)
        (λ h. s'.entries ≡ set_value (same_node n) r.entries (with_key h k))
        → s'.free ≡ r.free → s'.link_writes ≡ r.link_writes
        → ((HoldsKey eq seen.nodes k n × ((x : K) → eq k x ≡ true → hash x ≡ hash k)) → IsInStep eq hash s' t)
        × SetsNodeKey seen (seen_as s' t s) j k
    key-written s' k set free none =
        let nodes = renewed-nodes s' (λ h. with_key h k) set free (pair_with_key k) (λ h. refl) in (
          λ same. renewed-step s' (λ h. with_key h k) set free (λ h. refl) (λ h is.
              let e : eq k h.key ≡ true = passes-at (eq k) (entries_of seen) j (pair_of h) same.0.place
              (stored ∙ ap (option_map pair_of) is) in
              (laws.symm h.key k ∙ e, sym (same.1 h.key e))),
          record {
            nodes = nodes;
            state = changed s' _ 0 (ap values_of nodes ∙ values-renewed_key seen.nodes j k) free
                (omega (arith, none));
          },
        )

    -- its value was lent, and w was written there
    pub lent : (w : V) → IsInStep eq hash (ring_with_value_at r n w) t
        × (seen_as (ring_with_value_at r n w) t s ≡ with_value_at seen n w)
    lent w =
        let set = or-some (λ (h : Entry K V). set_value (same_node n) r.entries (with_value h w)) r.entries
        (lookup (same_node n) r.entries) in
        let written = value-written (ring_with_value_at r n w) w set refl refl in (
          written.0,
          ap (λ ns. keyed ns (length r.free) t.room r.link_writes s) written.1.nodes
              ∙ ap (λ (m : Keyed K V S). record m { nodes = renewed_at (pair_with_value w) seen.nodes j })
              view,
        )

  -- ---- a new node n for the absent key k was put directly before the place p; before room was made for it,
  -- the list was `old`
  module _ (old : Keyed K V S) (grown : GrowsRoom 1 old seen) (k : K) (v : V)
      (absent : place_of (eq k) (entries_of old) ≡ None) (ready : length old.nodes + 1 ≤ seen.room)
      (p : Option Node) (n : Node) (number : ℕ) (r' : Ring K V) (u : Contents Node)
      (put : r'.entries ≡ put_before p (n, held number k v) r.entries)
      (apart : IsDistinct same_node (keys_of r'.entries ++ r'.free))
      (freed : r'.free ≡ drop 1 r.free)
      (came : IsPermutation (kept number n ∷ t.nodes) u.nodes) (kept_room : u.room ≡ t.room) where
    put-at : r'.entries ≡ insert r.entries (place_number r.entries p) (n, held number k v)
    put-at = put ∙ put_before-at r.entries p (n, held number k v)

    same-nodes : nodes_of r.entries ≡ old.nodes
    same-nodes = ap (λ m. m.nodes) (view ∙ grown.rest)

    fresh-inside : NonePasses (same_node n) r.entries
    fresh-inside = none-inserted same_node same_node_equiv r'.entries
        (distinct-left (keys_of r'.entries) r'.free apart) r.entries
        (place_number r.entries p) (n, held number k v) put-at

    fewer-free : length r'.free ≡ length r.free - 1
    fewer-free = ap length freed ∙ length-drop 1 r.free

    pub added-step : number ≡ short (hash k) → IsInStep eq hash r' u
    added-step is =
        let none : NonePasses (eq k) (pairs_in r.entries) =
        none_passes_from_place (eq k) (pairs_in r.entries)
        (ap (λ ns. place_of (eq k) (values_of ns)) same-nodes
        ∙ absent) in
        let room : length r.entries + 1 ≤ t.room =
        omega (arith, ready, length-mapped pair_of r.entries, ap length same-nodes, ap (λ m. m.room) view) in
        step-in laws r r' t u n (held number k v) (place_number r.entries p) step none fresh-inside put-at is
        came kept_room room fewer-free

    pub added-node : IsInStep eq hash r' u → r'.link_writes ≡ r.link_writes + 4
        → AddsNode old (seen_as r' u s) (place_number old.nodes p) n k v
    added-node after stored =
        let before : seen_as r t s ≡ record old { room = seen.room } = view ∙ grown.rest in
        let gone_in : nodes_of r'.entries ≡ insert old.nodes (place_number old.nodes p) (n, (k, v)) =
        ap nodes_of put-at ∙ insert-map (λ (e : Node × Entry K V). (e.0, pair_of e.1)) r.entries
        (place_number r.entries p) (n, held number k v)
        ∙ ap (λ i. insert (nodes_of r.entries) i (n, (k, v))) (sym (place_number-mapped pair_of r.entries p))
        ∙ ap (λ ns. insert ns (place_number ns p) (n, (k, v))) same-nodes in
        let entries : pairs_in r'.entries ≡ insert (entries_of old) (place_number old.nodes p) (k, v) =
        ap values_of gone_in ∙ insert-map (λ (e : Node × (K × V)). e.1) old.nodes (place_number old.nodes p)
        (n, (k, v)) in
        let room : u.room ≡ seen.room = kept_room ∙ ap (λ m. m.room) view in
        let more = length-inserted (entries_of old) (place_number old.nodes p) (k, v) in
        let long : length (insert (entries_of old) (place_number old.nodes p) (k, v)) ≡ length old.nodes + 1 =
        more ∙ ap (λ i. i + 1) (length-values_of old.nodes) in
        record {
          fresh = ap (λ ns. lookup (same_node n) ns) (sym same-nodes)
              ∙ lookup-map_values pair_of (same_node n) r.entries
              ∙ ap (option_map pair_of) (lookup-none (same_node n) r.entries fresh-inside);
          nodes = gone_in;
          state = record {
            entries = entries;
            more = more;
            spare = fewer-free ∙ ap (λ i. i - 1) (ap (λ m. m.spare) before);
            room = record {
              grows = omega (arith, grown.more.grows, room);
              same = λ le. room ∙ grown.more.same (omega (arith, le, long));
              bound = omega (arith, grown.more.bound, room, long);
              ample = λ le. rw (long, room) (grown.more.ample (omega (arith, le, room)));
            };
            fits = (sound {s = s} refl after).fits;
            link_writes = stores-exactly 4 old.link_writes r'.link_writes (stored
                ∙ ap (λ w. w + 4) (ap (λ m. m.link_writes) before));
            hasher = ap (λ m. m.hasher) before;
          };
        }

-- a table that shrank to its nodes, or that failed to, has room for them
pub shrunk-room : {E : Type 0} (t u : Contents Node) (o : Result (Unit {0}) E) → len_of t ≤ t.room
    → OnOk o (u.room ≡ len_of t) → OnErr o (u ≡ t) → len_of t ≤ u.room
shrunk-room t u (Ok x) fits ok err = omega (arith, ok)
shrunk-room t u (Err e) fits ok err = omega (arith, fits, ap (λ c. c.room) err)
