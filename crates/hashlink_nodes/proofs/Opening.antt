-- A ring is opened, which gives these facts, and closed again.
use Rattle.hashlink_nodes.proofs.Names
use Names.{◌≡◌, ℕ, ◌+◌, ◌^◌, ◌<◌, List, [], ◌∷◌, ◌++◌, length, Option, Some, None, refl, sym, ap, ◌∙◌, subst}
use Names.{arith, true, is_some, IfSome, AllByRecursion, IsDistinct, keys_of, lookup, remove_entry}
use Names.{length-append, length-keys_of, IsDistinct-tail, Node, Inside, same_node, state_of, Ring, ring}
use Names.{Holds, IsRing, IsSound, SoundAt, ring_at, ring_of, walk, entry_of, entries_of, State, IsSome}
use Names.{AreThere, Entry, nil_from_length}
use Rattle.std.proofs.{Common.{false, ◌⊎◌, inl, inr}, lemmas.List.Elements.{All-contains, All-from_recursion}}
use Rattle.std.specs.List.{Contains}
use Rattle.hashlink_nodes.proofs.Paths.{all_right, length-walk, walk-linked, walk-chain}
use Rattle.hashlink_nodes.proofs.Cuts.{Cut, Gap, cut}
use Rattle.hashlink_nodes.proofs.Rings.{InRing, in_ring}

pub if_some : {X : Type 0} {o : Option X} {x : X} (P : X → Type 0) → o ≡ Some x → P x → IfSome o P
if_some P e p = subst (λ o. IfSome o P) (sym e) p

-- ---- lengths
module _ {X : Type 0} (es : List (Node × X)) where
  pub length-removed : {n : Node} → Cut es n → length (remove_entry (same_node n) es) + 1 ≡ length es
  length-removed {n} c =
      let old = length-append c.before ((n, c.value) ∷ c.after) in let new = length-append c.before c.after in
      omega (arith, ap length c.removed, ap length c.is, old, new)

  pub shrinks : (n : Node) → Holds es n → length es ≡ length (remove_entry (same_node n) es) + 1
  shrinks n there = sym (length-removed (cut es n there))

  pub length-gap : {put : Node × X → List (Node × X)} → Gap es put → (e : Node × X)
      → length (put e) ≡ length es + 1
  length-gap gap e =
      let new = length-append gap.before (e ∷ gap.after) in let old = length-append gap.before gap.after in
      omega (arith, ap length (gap.puts e), ap length gap.is, new, old)

module _ {K V : Type 0} where
  -- ---- a ring is closed
  pub record Leaves (s : State K V) (guard : Option Node) (first : Node) (len spare : ℕ)
      (v : Ring K V) : Type 0 where
    pub sound : SoundAt s guard first len spare
    pub view : ring_at s guard first len spare ≡ v
    pub entries : (ring_at s guard first len spare).entries ≡ v.entries
    pub free : (ring_at s guard first len spare).free ≡ v.free
    pub link_writes : s.link_writes ≡ v.link_writes
    pub apart : IsDistinct same_node (keys_of (ring_at s guard first len spare).entries ++
        (ring_at s guard first len spare).free)

  pub seal : {n : Inside K V} → SoundAt (state_of n.pool) n.guard n.first_spare n.len n.spare → IsSound n
  seal h = record { at = h }

  pub entries-held : (f : Node → Option (Entry K V)) (es : List (Node × Entry K V))
      → AllByRecursion (λ e. f e.0 ≡ Some e.1) es → entries_of f (keys_of es) ≡ es
  unfolding entries_of
  entries-held f [] h = refl
  entries-held f (e ∷ es) h =
      ap (λ o. entry_of e.0 o (entries_of f (keys_of es))) h.0 ∙ ap (λ l. e ∷ l) (entries-held f es h.1)

  pub leaves : {s : State K V} {guard : Option Node} {g first : Node} {len spare : ℕ} {v : Ring K V}
      → guard ≡ Some g → IsRing s [] g first v → length v.entries ≡ len → length v.free ≡ spare
      → Leaves s guard first len spare v
  leaves {s} {guard} {g} {first} {len} {spare} {v} is r is_len is_spare =
      let is_length : length (keys_of v.entries) ≡ len = length-keys_of v.entries ∙ is_len in
      let entries : entries_of s.held (walk s.next (s.next g) len) ≡ v.entries
      = ap (λ k. entries_of s.held (walk s.next (s.next g) k)) (sym is_length)
      ∙ ap (entries_of s.held) (walk-linked s.next s.prev g (keys_of v.entries) g r.links)
      ∙ entries-held s.held v.entries r.full in
      let free : walk s.next first spare ≡ v.free
      = ap (walk s.next first) (sym is_spare) ∙ walk-chain s.next first v.free r.chain in
      let view : ring_at s (Some g) first len spare ≡ v
      = λ i. record { entries = entries i; free = free i; link_writes = r.writes i } in
      subst (λ o. Leaves s o first len spare v) (sym is) (record {
        sound = (ap length entries ∙ is_len, subst (IsRing s [] g first) (sym view) r);
        view = view;
        entries = entries;
        free = free;
        link_writes = r.writes;
        apart = subst (λ (x : Ring K V). IsDistinct same_node (keys_of x.entries ++ x.free)) (sym view)
            (IsDistinct-tail same_node g (keys_of v.entries ++ v.free) r.apart);
      })

  -- ---- a ring is opened
  pub record Facts (len spare : ℕ) (v : Ring K V) : Type 0 where
    pub is_len : length v.entries ≡ len
    pub is_spare : length v.free ≡ spare
    pub small : len + spare < 2 ^ 63
    pub differ : IsDistinct same_node (keys_of v.entries ++ v.free)

  -- a node of the ring
  pub record NodeAt (s : State K V) (guard : Option Node) (g first : Node) (len spare : ℕ) (v : Ring K V)
      (n : Node) : Type 0 where
    pub is : guard ≡ Some g
    pub ring : IsRing s [] g first v
    pub facts : Facts len spare v
    pub cut : Cut v.entries n
    pub here : InRing s n cut.value
    pub shows : lookup (same_node n) v.entries ≡ s.held n

  module _ {n : Inside K V} (sound : IsSound n) {v : Ring K V} (view : ring_of n ≡ v) where
    abbrev s : State K V
    s = state_of n.pool

    -- if there is no guard, there is no node
    pub empty : n.guard ≡ None → v ≡ ring [] [] v.link_writes
    unfolding entries_of
    empty is =
        let e : ring [] [] s.link_writes ≡ v = ap (λ o. ring_at s o n.first_spare n.len n.spare) (sym is)
        ∙ view in
        sym e ∙ ap (λ (r : Ring K V). ring [] [] r.link_writes) e

    -- the invariant and the ring, if there is a guard
    with_guard : {g : Node} → n.guard ≡ Some g → SoundAt s (Some g) n.first_spare n.len n.spare
    with_guard is = subst (λ o. SoundAt s o n.first_spare n.len n.spare) is sound.at

    pub view_is : {g : Node} → n.guard ≡ Some g → ring_at s (Some g) n.first_spare n.len n.spare ≡ v
    view_is is = ap (λ o. ring_at s o n.first_spare n.len n.spare) (sym is) ∙ view

    pub opened : {g : Node} → n.guard ≡ Some g → IsRing s [] g n.first_spare v
    opened {g} is = subst (IsRing s [] g n.first_spare) (view_is is) (with_guard is).1

    pub guarded : (n.guard ≡ None → ⊥) → (g : Node) × (n.guard ≡ Some g)
    guarded not = (elim n.guard as (λ (o : Option Node). (o ≡ None → ⊥) → (g : Node) × (o ≡ Some g)) [
      | None ↦ λ h. absurd (h refl)
      | Some g ↦ λ _. (g, refl)
    ]) not

    pub known : Facts n.len n.spare v
    unfolding IsDistinct
    known = (elim n.guard as (λ (o : Option Node). n.guard ≡ o → Facts n.len n.spare v) [
      | None ↦ λ is.
          let h = subst (λ o. SoundAt s o n.first_spare n.len n.spare) is sound.at in
          subst (Facts n.len n.spare) (sym (empty is)) (record {
            is_len = sym h.0;
            is_spare = sym h.1;
            small = let a = h.0 in let b = h.1 in omega (arith, a, b);
            differ = tt;
          })
      | Some g ↦ λ is.
          let o = opened is in let e = sym (view_is is) in
          let is_len = ap (λ (r : Ring K V). length r.entries) e ∙ (with_guard is).0 in
          let is_spare = ap (λ (r : Ring K V). length r.free) e ∙ length-walk s.next n.first_spare n.spare in
          record {
            is_len = is_len;
            is_spare = is_spare;
            small = omega (arith, o.few, is_len, is_spare);
            differ = IsDistinct-tail same_node g (keys_of v.entries ++ v.free) o.apart;
          }
    ]) refl

    pub node_at : {g : Node} → n.guard ≡ Some g → (m : Node) → Holds v.entries m
        → NodeAt s n.guard g n.first_spare n.len n.spare v m
    node_at is m there =
        let o = opened is in let c = cut v.entries m there in
        let here = in_ring o c.before m c.value c.after c.is in
        record { is = is; ring = o; facts = known; cut = c; here = here; shows = c.looked ∙ sym here.holds }

    -- if the ring has a node, there is a guard
    pub guard_of : (m : Node) → Holds v.entries m → (g : Node) × (n.guard ≡ Some g)
    guard_of m there = guarded (λ is. cc (subst (λ (r : Ring K V). Holds r.entries m) (empty is) there))

    -- likewise if it has an entry or a free node
    pub entry_guard : 0 < length v.entries → IsSome n.guard
    entry_guard some =
        ap is_some (guarded (λ is. omega (arith, some, ap (λ (r : Ring K V). length r.entries) (empty is)))).1

    pub spare_guard : 0 < length v.free → (g : Node) × (n.guard ≡ Some g)
    spare_guard some = guarded (λ is. omega (arith, some, ap (λ (r : Ring K V). length r.free) (empty is)))

    pub node_in : (m : Node) (there : Holds v.entries m)
        → NodeAt s n.guard (guard_of m there).0 n.first_spare n.len n.spare v m
    node_in m there = node_at (guard_of m there).1 m there

    -- likewise if a link was stored
    pub written_guard : 0 < v.link_writes → (g : Node) × (n.guard ≡ Some g)
    written_guard some = guarded (λ is.
        let h = subst (λ o. SoundAt s o n.first_spare n.len n.spare) is sound.at in
        let none = h.3 in
        omega (arith, some, none, ap (λ (r : Ring K V). r.link_writes) view))

    -- ---- what a call of a ring may need
    -- a node of the ring and its neighbours have blocks, the ring is not empty, and there is a guard
    pub fits : (m : Node) → Holds v.entries m → AreThere s m (s.prev m) (s.next m)
    fits m there = (node_in m there).here.fits

    pub has_block : (m : Node) → Holds v.entries m → s.has m ≡ true
    has_block m there = (fits m there).node

    pub counted : (m : Node) → Holds v.entries m → 0 < n.len
    counted m there = omega (arith, known.is_len, shrinks v.entries m there)

    pub guard_there : (m : Node) → Holds v.entries m → IsSome n.guard
    guard_there m there = ap is_some (guard_of m there).1

    -- its block holds its entry
    pub holds : (m : Node) → Holds v.entries m → IsSome (s.held m)
    holds m there = ap is_some (node_in m there).here.holds

    pub shows : (m : Node) → Holds v.entries m → lookup (same_node m) v.entries ≡ s.held m
    shows m there = (node_in m there).shows

    -- a free node has a block, which holds nothing
    at_free : (m : Node) → Contains v.free m → (s.has m ≡ true) × (s.held m ≡ None)
    at_free m c =
        let o = opened (spare_guard (omega (arith, c.1))).1 in
        let has : Node → Type 0 = λ x. s.has x ≡ true in let bare : Node → Type 0 = λ x. s.held x ≡ None in
        let there = all_right has (keys_of v.entries) v.free o.there.1 in (
          All-contains has v.free m (All-from_recursion has v.free there) c,
          All-contains bare v.free m (All-from_recursion bare v.free o.bare.1) c,
        )

    -- a node in use or free has a block, which holds its entry if there is one
    pub has_node : (m : Node) → Holds v.entries m ⊎ Contains v.free m → s.has m ≡ true
    has_node m (inl there) = has_block m there
    has_node m (inr c) = (at_free m c).0

    pub shows_entry : (m : Node) → Holds v.entries m ⊎ Contains v.free m
        → is_some (lookup (same_node m) v.entries) ≡ is_some (s.held m)
    shows_entry m (inl there) = ap is_some (shows m there)
    shows_entry m (inr c) =
        (elim (is_some (lookup (same_node m) v.entries)) as (λ b. is_some (lookup (same_node m) v.entries) ≡ b
        → is_some (lookup (same_node m) v.entries) ≡ is_some (s.held m)) [
          | true ↦ λ there. ap is_some (shows m there)
          | false ↦ λ none. none ∙ sym (ap is_some (at_free m c).1)
        ]) refl

    -- no node comes twice
    pub differ : IsDistinct same_node (keys_of v.entries ++ v.free)
    differ = known.differ

    -- how many nodes are free
    pub counts_free : n.spare ≡ length v.free
    counts_free = sym known.is_spare

    pub none_free : n.spare ≡ 0 → v.free ≡ []
    none_free none = nil_from_length v.free (known.is_spare ∙ none)

-- what each node has
pub ruleset nodes_have = (has_block, has_node, holds, shows, shows_entry)

pub ruleset ring_facts =
    (known, nodes_have, counted, guard_there, entry_guard, differ, counts_free, none_free)
