-- Lemmas for the calls of a ring, each from the ring as it is opened to the ring as it is closed.
use Rattle.hashlink_nodes.proofs.Names
use Names.{◌≡◌, ℕ, ◌+◌, ◌-◌, ◌^◌, ◌<◌, [], ◌∷◌, ◌++◌, length, Option, Some, None, refl, sym, ap, ◌∙◌, subst}
use Names.{arith, keys_of, unwrap_or, remove_entry, set_value, option_map, is_some, IsSome, true}
use Names.{Holds, length-drop}
use Names.{length-set_value, Node, Inside, same_node, state_of, Ring, ring, Entry, IsRing, IsSound, SoundAt}
use Names.{ring_of, State, GuardIs, attached, detached, hold, store_next, Adds, Drops, AreThere, IsPlace}
use Names.{put_before, put_after}
use Rattle.std.proofs.Common.{drop}
use Rattle.hashlink_nodes.proofs.Rings.{Linked, linked, attach, Entries, detach, held_out, holds_now}
use Rattle.hashlink_nodes.proofs.Rings.{held_now, added, dropped, spared, take_spare, renew, Taken, guarded}
use Rattle.hashlink_nodes.proofs.Opening.{length-gap, Leaves, NodeAt, leaves, length-removed, opened, empty}
use Rattle.hashlink_nodes.{specs.declared.pool.Pool.Pool, proofs.Paths.{head_or, last_or}}
use Rattle.hashlink_nodes.proofs.{Cuts.{Gap, before_place, after_place}, Neighbours.neighbours}
use Rattle.hashlink_nodes.proofs.Opening.{known, shrinks, node_in, spare_guard, ring_facts}
use Rattle.hashlink_nodes.proofs.Opening.{written_guard}

module _ {K V : Type 0} where
  -- ---- an entry is inserted
  -- the node n holds it, and is not yet in the ring, which will have len entries
  pub record Ready (s : State K V) (n g first : Node) (h : Entry K V) (len spare : ℕ) (v : Ring K V) : Type 0
    where
      pub ring : IsRing s (n ∷ []) g first v
      pub holds : s.held n ≡ Some h
      pub is_len : length v.entries + 1 ≡ len
      pub is_spare : length v.free ≡ spare

  -- the node is inserted between p and q, and es are the entries then
  pub record Into (s : State K V) (n g first p q : Node) (len spare : ℕ) (v : Ring K V) (es : Entries K V) :
      Type 0 where
    pub fits : AreThere s n p q
    pub leaves : {s' : State K V} {guard : Option Node} → guard ≡ Some g → s' ≡ attached n p q s
        → Leaves s' guard first len spare (ring es v.free (v.link_writes + 4))

  module _ {s : State K V} {n g first : Node} {h : Entry K V} {len spare : ℕ} {v : Ring K V}
      (r : Ready s n g first h len spare v) where
    into : {p q : Node} {put : Node × Entry K V → Entries K V} (gap : Gap v.entries put)
        → Linked s (last_or g (keys_of gap.before)) (head_or g (keys_of gap.after))
        → p ≡ last_or g (keys_of gap.before) → q ≡ head_or g (keys_of gap.after)
        → Into s n g first p q len spare v (put (n, h))
    into gap l is_p is_q = record {
      fits = record {
        node = r.ring.there.0;
        prev = ap s.has is_p ∙ l.has_prev;
        next = ap s.has is_q ∙ l.has_next;
      };
      leaves = λ {s'} is_guard is.
          let w = v.link_writes in
          let r' = subst (λ es. IsRing s (n ∷ []) g first (ring es v.free w)) gap.is r.ring in
          leaves is_guard
          (subst (λ es. IsRing s' [] g first (ring es v.free (w + 4))) (sym (gap.puts (n, h)))
          (attach gap.before gap.after r' r.holds is_p is_q is)) (length-gap v.entries gap (n, h) ∙ r.is_len)
          r.is_spare;
    }

    module _ (place : Option Node) (is_place : IsPlace v.entries place) {p : Node}
        (is_p : p ≡ unwrap_or place g) where
      pub into_before : Into s n g first (s.prev p) p len spare v (put_before place (n, h) v.entries)
      into_before =
          let at = before_place v.entries g place is_place in let is = is_p ∙ at.node in
          let l = linked r.ring at.gap.before at.gap.after at.gap.is in
          into at.gap l (ap s.prev is ∙ l.back) is

      pub into_after : Into s n g first p (s.next p) len spare v (put_after place (n, h) v.entries)
      into_after =
          let at = after_place v.entries g place is_place in let is = is_p ∙ at.node in
          let l = linked r.ring at.gap.before at.gap.after at.gap.is in
          into at.gap l is (ap s.next is ∙ l.on)

  -- ---- a node of the ring
  module _ {s : State K V} {guard : Option Node} {g first n : Node} {len spare : ℕ} {v : Ring K V}
      (at : NodeAt s guard g first len spare v n) where
    abbrev rest : Entries K V
    rest = remove_entry (same_node n) v.entries

    cut_open : IsRing s [] g first
        (ring (at.cut.before ++ (n, at.cut.value) ∷ at.cut.after) v.free v.link_writes)
    cut_open = subst (λ es. IsRing s [] g first (ring es v.free v.link_writes)) at.cut.is at.ring

    -- it holds another entry
    pub set_held : {s' : State K V} (w : Entry K V) → s' ≡ hold n (Some w) s
        → Leaves s' guard first len spare (ring (set_value (same_node n) v.entries w) v.free v.link_writes)
    set_held {s'} w is =
        leaves at.is
        (subst (λ es. IsRing s' [] g first (ring es v.free v.link_writes)) (sym (at.cut.renewed w))
        (renew n at.cut.value at.cut.before at.cut.after cut_open w is))
        (length-set_value (same_node n) v.entries w ∙ at.facts.is_len) at.facts.is_spare

    pub renewed : {s' : State K V} (change : Entry K V → Entry K V)
        → s' ≡ hold n (option_map change (s.held n)) s
        → Leaves s' guard first len spare
        (ring (set_value (same_node n) v.entries (change at.cut.value)) v.free v.link_writes)
    renewed change is =
        set_held (change at.cut.value) (is ∙ ap (λ o. hold n (option_map change o) s) at.here.holds)

    -- it is taken out of the ring
    pub taken_out : {s₁ : State K V} → s₁ ≡ detached n s
        → IsRing s₁ (n ∷ []) g first (ring rest v.free (v.link_writes + 2))
    taken_out {s₁} is =
        subst (λ es. IsRing s₁ (n ∷ []) g first (ring es v.free (v.link_writes + 2)))
        (sym at.cut.removed) (detach at.cut.value at.cut.before at.cut.after cut_open is)

    -- it is the first free node then
    pub removed : {s₁ s₂ s₃ : State K V} → s₁ ≡ detached n s → s₂ ≡ hold n None s₁ →
        s₃ ≡ store_next n first s₂
        → Leaves s₃ guard n (len - 1) (spare + 1) (ring rest (n ∷ v.free) (v.link_writes + 2 + 1))
    removed {s₁} is₁ is₂ is₃ =
        leaves at.is (spared (holds_now (taken_out is₁) None is₂) (held_now s₁ is₂) is₃)
        (omega (arith, length-removed v.entries at.cut, at.facts.is_len)) (omega (arith, at.facts.is_spare))

    -- or it can be inserted elsewhere
    pub ready_moved : {s₁ : State K V} → s₁ ≡ detached n s
        → Ready s₁ n g first at.cut.value len spare (ring rest v.free (v.link_writes + 2))
    ready_moved is = record {
      ring = taken_out is;
      holds = held_out at.here is;
      is_len = length-removed v.entries at.cut ∙ at.facts.is_len;
      is_spare = at.facts.is_spare;
    }

  -- ---- the steps in between
  -- a block that was written, and what it holds now
  module _ (p q : Pool K V) (m : Node) (o : Option (Entry K V))
      (is : state_of q ≡ hold m o (state_of p)) where
    pub bare_now : o ≡ None → (state_of q).held m ≡ None
    bare_now none = held_now (state_of p) is ∙ none

    pub has_yet : (state_of p).has m ≡ true → (state_of q).has m ≡ true
    unfolding hold
    has_yet h = ap (λ (t : State K V). t.has m) is ∙ h

  -- a node that is taken out still holds its entry
  module _ {n : Inside K V} (sound : IsSound n) {v : Ring K V} (view : ring_of n ≡ v) (m : Node)
      (there : Holds v.entries m) (p : Pool K V) (is : state_of p ≡ detached m (state_of n.pool)) where
    pub holds_out : IsSome ((state_of p).held m)
    holds_out = ap is_some (held_out (node_in sound view m there).here is)

    pub has_out : (state_of p).has m ≡ true
    has_out = (taken_out (node_in sound view m there) is).there.0

  -- ---- the first free node
  module _ {n : Inside K V} (sound : IsSound n) {v : Ring K V} (view : ring_of n ≡ v) where
    abbrev s : State K V
    s = state_of n.pool

    abbrev v' : Ring K V
    v' = ring v.entries (drop 1 v.free) v.link_writes

    -- it is taken from the free list
    taken : {g : Node} → n.guard ≡ Some g → 0 < length v.free → Taken s g n.first_spare v
    taken {g} is some =
        take_spare s g n.first_spare v.entries v.free v.link_writes (opened sound view is) some

    here : (some : 0 < length v.free) → Taken s (spare_guard sound view some).0 n.first_spare v
    here some = taken (spare_guard sound view some).1 some

    some_free : 0 < n.spare → 0 < length v.free
    some_free some = omega (arith, some, (known sound view).is_spare)

    -- it has a block, which holds nothing
    pub spare_has : 0 < n.spare → s.has n.first_spare ≡ true
    spare_has some = (here (some_free some)).has_node

    pub spare_bare : 0 < n.spare → s.held n.first_spare ≡ None
    spare_bare some = (here (some_free some)).bare

    -- it holds an entry, which can be inserted
    pub ready_spare : {s' : State K V} {g first' : Node} {h : Entry K V} → n.guard ≡ Some g → 0 < n.spare
        → first' ≡ s.next n.first_spare → s' ≡ hold n.first_spare (Some h) s
        → Ready s' n.first_spare g first' h (n.len + 1) (n.spare - 1) v'
    ready_spare {s'} {g} {h = h} is_guard some is_first is =
        let k = known sound view in record {
          ring = subst (λ m. IsRing s' (n.first_spare ∷ []) g m v') (sym is_first)
              (holds_now (taken is_guard (some_free some)).ring (Some h) is);
          holds = held_now s is;
          is_len = omega (arith, k.is_len);
          is_spare = omega (arith, length-drop 1 v.free, k.is_spare);
        }

    -- its block is freed
    pub spare_gone : {s' : State K V} {first' : Node} → 0 < length v.free → first' ≡ s.next n.first_spare
        → Drops n.first_spare s s' → Leaves s' n.guard first' n.len (n.spare - 1) v'
    spare_gone {s'} some is_first drops =
        let k = known sound view in
        subst (λ m. Leaves s' n.guard m n.len (n.spare - 1) v') (sym is_first)
        (leaves (spare_guard sound view some).1 (dropped (here some).ring drops) k.is_len
        (omega (arith, length-drop 1 v.free, k.is_spare)))

  -- ---- a new entry
  -- there is a guard, or it was made
  guarded_now : {n : Inside K V} {s' : State K V} {g : Node} {v : Ring K V} → IsSound n → ring_of n ≡ v
      → GuardIs (state_of n.pool) s' n.guard g → IsRing s' [] g n.first_spare v
  guarded_now {n} {s'} {g} {v} sound view is = (elim n.guard as (λ (o : Option Node). n.guard ≡ o
      → GuardIs (state_of n.pool) s' o g → IsRing s' [] g n.first_spare v) [
        | None ↦ λ none m.
            let h = subst (λ o. SoundAt (state_of n.pool) o n.first_spare n.len n.spare) none sound.at in
            subst (IsRing s' [] g n.first_spare) (sym (empty sound view none))
            (guarded n.first_spare h.2 (ap (λ (r : Ring K V). r.link_writes) view) m)
        | Some x ↦ λ some m.
            subst (λ (t : State K V × Node). IsRing t.0 [] t.1 n.first_spare v)
            (λ i. (sym m.1 i, sym m.0 i)) (opened sound view some)
      ]) refl is

  -- the guard stays even if nothing else is inserted
  pub guard_stays : {n : Inside K V} {p p' : Pool K V} {g : Node} {v : Ring K V} → IsSound n → ring_of n ≡ v
      → GuardIs (state_of n.pool) (state_of p) n.guard g → p' ≡ p
      → Leaves (state_of p') (Some g) n.first_spare n.len n.spare v
  guard_stays {n} {g = g} {v} sound view is_guard same =
      let k = known sound view in
      subst (λ (x : Pool K V). Leaves (state_of x) (Some g) n.first_spare n.len n.spare v) (sym same)
      (leaves refl (guarded_now sound view is_guard) k.is_len k.is_spare)

  -- a new node
  pub ready_new : {n : Inside K V} {s s₁ s₂ : State K V} {m g : Node} {h : Entry K V} {v : Ring K V}
      → IsSound n → ring_of n ≡ v → GuardIs (state_of n.pool) s n.guard g → v.free ≡ [] → n.len + 1 < 2 ^ 63
      → Adds m s s₁ → s₂ ≡ hold m (Some h) s₁ → Ready s₂ m g n.first_spare h (n.len + 1) n.spare v
  ready_new {s₁ = s₁} {h = h} sound view is_guard none few a is =
      let k = known sound view in let r = guarded_now sound view is_guard in record {
        ring = holds_now (added r a (omega (arith, few, k.is_len, ap length none))) (Some h) is;
        holds = held_now s₁ is;
        is_len = omega (arith, k.is_len);
        is_spare = k.is_spare;
      }

  -- a new free node
  pub free_added : {n : Inside K V} {s₁ s₂ : State K V} {m : Node} {v : Ring K V} → IsSound n → ring_of n ≡ v
      → 0 < v.link_writes → length v.entries + length v.free + 1 < 2 ^ 63 → Adds m (state_of n.pool) s₁
      → s₂ ≡ store_next m n.first_spare s₁
      → Leaves s₂ n.guard m n.len (n.spare + 1) (ring v.entries (m ∷ v.free) (v.link_writes + 1))
  free_added sound view some few a is =
      let k = known sound view in let g = written_guard sound view some in
      leaves g.1 (spared (added (opened sound view g.1) a few) a.bare is) k.is_len
      (omega (arith, k.is_spare))

  -- the guard's block is freed last
  pub guard_gone : {n : Inside K V} → IsSound n → {v : Ring K V} → ring_of n ≡ v → v.entries ≡ []
      → v.free ≡ [] → {g : Node} → n.guard ≡ Some g → (p : Pool K V) → Drops g (state_of n.pool) (state_of p)
      → (state_of p).size ≡ 0
  guard_gone sound view no_entries no_free is p drops =
      omega (arith, (opened sound view is).size, drops.size, ap length no_entries, ap length no_free)

pub ruleset at_nodes = (holds_out, has_out, bare_now, has_yet, spare_has, spare_bare)

pub ruleset at_ends = (shrinks, guard_gone)

-- a goal of a call that no answer proves is first tried by these lemmas
pub ruleset ring_calls = (ring_facts, neighbours, at_nodes, at_ends)
