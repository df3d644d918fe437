-- The effect of each step on a ring, and on the value that a contract sees of it.
use Rattle.hashlink_nodes.proofs.Names
use Names.{◌≡◌, ℕ, ◌+◌, ◌^◌, ◌<◌, Bool, true, false, List, [], ◌∷◌, ◌++◌, length, Option, None, Some, refl}
use Names.{sym, ap, ◌∙◌, subst, arith, AllByRecursion, IsDistinct, keys_of, append_assoc, length-append}
use Names.{map-append, IsDistinct-head, IsDistinct-tail, IsDistinct-cons, Node, same_node, eq-same_node}
use Names.{set_at, State, store_next, store_prev, hold, detached, attached, Adds, Differs, Drops, AreThere}
use Names.{MakesGuard, IsChain, IsLinked, IsRing, Ring, ring, Entry}
use Rattle.std.proofs.Common.{drop, lit<}
use Rattle.hashlink_nodes.proofs.Paths.{head_or, last_or, Off, IsOff, flip, all_left, all_right}
use Rattle.hashlink_nodes.proofs.Paths.{all_middle, all_without, all_with, all_both, all_as, all_zip}
use Rattle.hashlink_nodes.proofs.Paths.{to_front, from_front, set_at_here, set_at_other, linked_cut}
use Rattle.hashlink_nodes.proofs.Paths.{linked_at, linked_same, linked_detach, linked_attach, chain_same}
use Rattle.hashlink_nodes.proofs.Paths.{agrees_off, agrees_off_two, off_rest, off_last, off_head}
use Rattle.hashlink_nodes.proofs.Cuts.{last-pushed}

pub distinct_left : (xs ys : List Node) → IsDistinct same_node (xs ++ ys) → IsDistinct same_node xs
unfolding IsDistinct
distinct_left [] ys d = tt
distinct_left (x ∷ xs) ys d = (all_left (Off x) xs ys d.0, distinct_left xs ys d.1)

module _ (P : Node → Type 0) where
  of_last : (a : Node) (xs ys : List Node) → AllByRecursion P (a ∷ (xs ++ ys)) → P (last_or a xs)
  of_last a [] ys h = h.0
  of_last a (x ∷ xs) ys h = of_last x xs ys h.1

  of_head : (b : Node) (xs ys : List Node) → P b → AllByRecursion P (xs ++ ys) → P (head_or b ys)
  of_head b xs [] p h = p
  of_head b xs (y ∷ ys) p h = (all_right P xs (y ∷ ys) h).0

abbrev pub Entries : Type 0 → Type 0 → Type 0
Entries K V = List (Node × Entry K V)

pub keys-append : {X : Type 0} (xs ys : List (Node × X)) → keys_of (xs ++ ys) ≡ keys_of xs ++ keys_of ys
keys-append {X} xs ys = map-append (λ (e : Node × X). e.0) xs ys

module _ {K V : Type 0} where
  abbrev pub Full : State K V → Entries K V → Type 0
  Full s es = AllByRecursion (λ e. s.held e.0 ≡ Some e.1) es

  abbrev Has : State K V → Node → Type 0
  Has s n = s.has n ≡ true

  -- ---- neighbours
  -- p and q have blocks and are linked
  pub record Linked (s : State K V) (p q : Node) : Type 0 where
    pub has_prev : s.has p ≡ true
    pub has_next : s.has q ≡ true
    pub on : s.next p ≡ q
    pub back : s.prev q ≡ p

  -- n and its neighbours have blocks, and n holds h
  pub record InRing (s : State K V) (n : Node) (h : Entry K V) : Type 0 where
    pub holds : s.held n ≡ Some h
    pub fits : AreThere s n (s.prev n) (s.next n)

  module _ {s : State K V} {out : List Node} {g first : Node} {v : Ring K V} (r : IsRing s out g first v)
    where
      pub linked : (xs ys : Entries K V) → v.entries ≡ xs ++ ys
          → Linked s (last_or g (keys_of xs)) (head_or g (keys_of ys))
      linked xs ys is =
          let ks = keys_of xs in let ls = keys_of ys in
          let keys : keys_of v.entries ≡ ks ++ ls = ap keys_of is ∙ keys-append xs ys in
          let all = all_right (Has s) out (g ∷ (keys_of v.entries ++ v.free)) r.there in
          let both = linked_cut s.next s.prev g ks ls g
          (subst (λ l. IsLinked s.next s.prev g l g) keys r.links) in
          let there = subst (AllByRecursion (Has s)) keys (all_left (Has s) (keys_of v.entries) v.free all.1)
          in
          record {
            has_prev = of_last (Has s) g ks ls (all.0, there);
            has_next = of_head (Has s) g ks ls all.0 there;
            on = both.0;
            back = both.1;
          }

      pub in_ring : (xs : Entries K V) (n : Node) (h : Entry K V) (ys : Entries K V)
          → v.entries ≡ xs ++ (n, h) ∷ ys → InRing s n h
      in_ring xs n h ys is =
          let before = linked xs ((n, h) ∷ ys) is in
          let after = linked (xs ++ (n, h) ∷ []) ys (is ∙ sym (append_assoc xs ((n, h) ∷ []) ys)) in
          record {
            holds = all_middle (λ e. s.held e.0 ≡ Some e.1) xs (n, h) ys (subst (Full s) is r.full);
            fits = record {
              node = before.has_next;
              prev = ap s.has before.back ∙ before.has_prev;
              next = ap (λ m. s.has (s.next m)) (sym (last-pushed g xs (n, h))) ∙ ap s.has after.on
                  ∙ after.has_next;
            };
          }

  -- ---- a node is taken out of the ring
  pub detach : {s s' : State K V} {g first n : Node} (h : Entry K V) (xs ys : Entries K V) {fs : List Node}
      {w : ℕ} → IsRing s [] g first (ring (xs ++ (n, h) ∷ ys) fs w) → s' ≡ detached n s
      → IsRing s' (n ∷ []) g first (ring (xs ++ ys) fs (w + 2))
  unfolding detached store_next store_prev
  detach {s} {s'} {g} {first} {n} h xs ys {fs} {w} r is =
      let ks = keys_of xs in let ls = keys_of ys in
      let links : IsLinked s.next s.prev g (ks ++ n ∷ ls) g = simp keys-append at r.links in
      let at = linked_at s.next s.prev n g ks ls g links in let after = at.0 in let before = at.1 in
      let f' = set_at s.next (s.prev n) (s.next n) in let b' = set_at s.prev (s.next n) (s.prev n) in
      let others : (m : Node) → same_node m (last_or g ks) ≡ false → f' m ≡ s.next m
      = λ m k. set_at_other s.next (s.prev n) m (s.next n) (ap (same_node m) before ∙ k) in
      let back_others : (m : Node) → same_node m (head_or g ls) ≡ false → b' m ≡ s.prev m
      = λ m k. set_at_other s.prev (s.next n) m (s.prev n) (ap (same_node m) after ∙ k) in
      let apart : IsDistinct same_node (g ∷ (ks ++ n ∷ (ls ++ fs)))
      = simp (keys-append, append_assoc) at r.apart in
      let d : IsDistinct same_node (g ∷ (ks ++ n ∷ ls))
      = distinct_left (g ∷ (ks ++ n ∷ ls)) fs (simp append_assoc apart) in
      let off = all_right (Off (last_or g ks)) (n ∷ ls) fs (off_rest g ks (n ∷ (ls ++ fs)) apart) in
      let there : AllByRecursion (Has s) (g ∷ (ks ++ n ∷ (ls ++ fs)))
      = simp (keys-append, append_assoc) at r.there in
      subst (λ t. IsRing t (n ∷ []) g first (ring (xs ++ ys) fs (w + 2))) (sym is) (record {
        links = simp keys-append (linked_detach f' s.next b' s.prev n g ks ls g links
            (ap f' (sym before) ∙ set_at_here s.next (s.prev n) (s.next n) ∙ after)
            (ap b' (sym after) ∙ set_at_here s.prev (s.next n) (s.prev n) ∙ before) others back_others d d);
        chain = chain_same f' s.next first fs (agrees_off f' s.next (last_or g ks) fs others off) r.chain;
        apart = simp (keys-append, append_assoc) (to_front (g ∷ ks) n (ls ++ fs) apart);
        full = all_without (λ e. s.held e.0 ≡ Some e.1) xs (n, h) ys r.full;
        bare = r.bare;
        there = simp (keys-append, append_assoc) (
          all_middle (Has s) (g ∷ ks) n (ls ++ fs) there,
          all_without (Has s) (g ∷ ks) n (ls ++ fs) there,
        );
        size = omega (arith, r.size, length-append xs ((n, h) ∷ ys), length-append xs ys);
        few = omega (arith, r.few, length-append xs ((n, h) ∷ ys), length-append xs ys);
        writes = omega (arith, r.writes);
      })

  -- ---- a node outside of the ring is linked in between two neighbours
  pub attach : {s s' : State K V} {g first n p q : Node} {h : Entry K V} (xs ys : Entries K V)
      {fs : List Node} {w : ℕ} → IsRing s (n ∷ []) g first (ring (xs ++ ys) fs w) → s.held n ≡ Some h
      → p ≡ last_or g (keys_of xs) → q ≡ head_or g (keys_of ys) → s' ≡ attached n p q s
      → IsRing s' [] g first (ring (xs ++ (n, h) ∷ ys) fs (w + 4))
  unfolding attached store_next store_prev
  attach {s} {s'} {g} {first} {n} {h = h} xs ys {fs} {w} r holds is_p is_q is =
      let ks = keys_of xs in let ls = keys_of ys in let p = last_or g ks in let q = head_or g ls in
      let f₁ = set_at s.next n q in let f' = set_at f₁ p n in
      let b₁ = set_at s.prev n p in let b' = set_at b₁ q n in
      let apart : IsDistinct same_node (n ∷ g ∷ (ks ++ (ls ++ fs)))
      = simp (keys-append, append_assoc) at r.apart in
      let d : IsDistinct same_node (n ∷ g ∷ (ks ++ ls))
      = distinct_left (n ∷ g ∷ (ks ++ ls)) fs (simp append_assoc apart) in
      let off = IsDistinct-head same_node n _ d in
      let not_p : same_node n p ≡ false = off_last n g ks ls off in
      let not_q : same_node n q ≡ false = off_head n ls g (all_right (Off n) ks ls off.1) off.0 in
      let others : (m : Node) → same_node m n ≡ false → same_node m p ≡ false → f' m ≡ s.next m
      = λ m j k. set_at_other f₁ p m n k ∙ set_at_other s.next n m q j in
      let back_others : (m : Node) → same_node m n ≡ false → same_node m q ≡ false → b' m ≡ s.prev m
      = λ m j k. set_at_other b₁ q m n k ∙ set_at_other s.prev n m p j in
      let off_p : IsOff p fs
      = all_right (Off p) ls fs (off_rest g ks (ls ++ fs) (IsDistinct-tail same_node n _ apart)) in
      let off_n : IsOff n fs = all_right (Off n) (g ∷ keys_of (xs ++ ys)) fs
      (IsDistinct-head same_node n _ r.apart) in
      let there : AllByRecursion (Has s) (g ∷ (ks ++ (ls ++ fs)))
      = simp (keys-append, append_assoc) at r.there.1 in
      subst (λ t. IsRing t [] g first (ring (xs ++ (n, h) ∷ ys) fs (w + 4)))
      ((λ i. attached n (sym is_p i) (sym is_q i) s) ∙ sym is) (record {
        links = simp keys-append (linked_attach f' s.next b' s.prev n g ks ls g (simp keys-append at r.links)
            (set_at_here f₁ p n) (set_at_other b₁ q n n not_q ∙ set_at_here s.prev n p)
            (set_at_other f₁ p n n not_p ∙ set_at_here s.next n q) (set_at_here b₁ q n) others back_others
            d d);
        chain = chain_same f' s.next first fs (agrees_off_two f' s.next n p fs others off_n off_p) r.chain;
        apart = simp (keys-append, append_assoc) (from_front (g ∷ ks) n (ls ++ fs) apart);
        full = all_with (λ e. s.held e.0 ≡ Some e.1) xs (n, h) ys holds r.full;
        bare = r.bare;
        there = simp (keys-append, append_assoc) (all_with (Has s) (g ∷ ks) n (ls ++ fs) r.there.0 there);
        size = omega (arith, r.size, length-append xs ((n, h) ∷ ys), length-append xs ys);
        few = omega (arith, r.few, length-append xs ((n, h) ∷ ys), length-append xs ys);
        writes = omega (arith, r.writes);
      })

  -- ---- what a node holds changes
  pub held_now : {s' : State K V} {n : Node} {o : Option (Entry K V)} (s : State K V) → s' ≡ hold n o s
      → s'.held n ≡ o
  unfolding hold
  held_now {n = n} {o = o} s is = ap (λ (t : State K V). t.held n) is ∙ set_at_here s.held n o

  -- a node that was detached still holds what it held
  pub held_out : {s s' : State K V} {n : Node} {h : Entry K V} → InRing s n h → s' ≡ detached n s
      → s'.held n ≡ Some h
  unfolding detached store_next store_prev
  held_out {n = n} at is = ap (λ (t : State K V). t.held n) is ∙ at.holds

  pub differs_hold : (n : Node) (o : Option (Entry K V)) (s : State K V) → Differs n s (hold n o s)
  unfolding hold
  differs_hold n o s = record {
    next = λ m k. refl;
    prev = λ m k. refl;
    held = λ m k. set_at_other s.held n m o k;
    has = λ m k. refl;
  }

  full_off : {s s' : State K V} {n : Node} → Differs n s s' → (es : Entries K V) → IsOff n (keys_of es)
      → Full s es
      → Full s' es
  full_off d [] off h = tt
  full_off {n = n} d (e ∷ es) off h = (d.held e.0 (flip n e.0 off.0) ∙ h.0, full_off d es off.1 h.1)

  -- a node of the ring holds another entry
  pub renew : {s s' : State K V} {g first : Node} (n : Node) (h : Entry K V) (xs ys : Entries K V)
      {fs : List Node} {w : ℕ} → IsRing s [] g first (ring (xs ++ (n, h) ∷ ys) fs w) → (x : Entry K V)
      → s' ≡ hold n (Some x) s → IsRing s' [] g first (ring (xs ++ (n, x) ∷ ys) fs w)
  unfolding hold
  renew {s} {s'} {g} {first} n h xs ys {fs} {w} r x is =
      let ks = keys_of xs in let ls = keys_of ys in let d = differs_hold n (Some x) s in
      let apart : IsDistinct same_node (g ∷ (ks ++ n ∷ (ls ++ fs)))
      = simp (keys-append, append_assoc) at r.apart in
      let others : IsDistinct same_node (n ∷ g ∷ (keys_of (xs ++ ys) ++ fs))
      = simp (keys-append, append_assoc) (to_front (g ∷ ks) n (ls ++ fs) apart) in
      let off = IsDistinct-head same_node n _ others in
      let kept = full_off d (xs ++ ys) (all_left (Off n) (keys_of (xs ++ ys)) fs off.1)
      (all_without (λ e. s.held e.0 ≡ Some e.1) xs (n, h) ys r.full) in
      subst (λ t. IsRing t [] g first (ring (xs ++ (n, x) ∷ ys) fs w)) (sym is) (record {
        links = simp keys-append (simp keys-append at r.links);
        chain = r.chain;
        apart = simp keys-append (simp keys-append at r.apart);
        full = all_with (λ e. (hold n (Some x) s).held e.0 ≡ Some e.1) xs (n, x) ys
            (set_at_here s.held n (Some x)) kept;
        bare = all_zip (λ m k o. d.held m (flip n m o) ∙ k) (g ∷ fs) r.bare
            (off.0, all_right (Off n) (keys_of (xs ++ ys)) fs off.1);
        there = simp keys-append (simp keys-append at r.there);
        size = omega (arith, r.size, length-append xs ((n, h) ∷ ys), length-append xs ((n, x) ∷ ys));
        few = omega (arith, r.few, length-append xs ((n, h) ∷ ys), length-append xs ((n, x) ∷ ys));
        writes = r.writes;
      })

  -- ---- a node outside of the ring changes, is made, or loses its block
  module _ {s s' : State K V} {out : List Node} {g first n : Node} {v : Ring K V} (r : IsRing s out g first v)
      (off : IsOff n (g ∷ (keys_of v.entries ++ v.free))) (d : Differs n s s') where
    carried : {w : ℕ} → AllByRecursion (Has s) (g ∷ (keys_of v.entries ++ v.free)) → (out' : List Node)
        → IsDistinct same_node (out' ++ g ∷ (keys_of v.entries ++ v.free)) → AllByRecursion (Has s') out'
        → s'.size ≡ length out' + length v.entries + length v.free + 1
        → length out' + length v.entries + length v.free < 2 ^ 63 → s'.link_writes ≡ w
        → IsRing s' out' g first (ring v.entries v.free w)
    carried there out' apart has_out size few writes =
        let ks = keys_of v.entries in let fs = v.free in
        let on_ring = all_left (Off n) (g ∷ ks) fs off in let on_free = all_right (Off n) (g ∷ ks) fs off in
        record {
          links =
              linked_same s'.next s.next s'.prev s.prev g ks g
              (agrees_off s'.next s.next n (g ∷ ks) d.next on_ring)
              (agrees_off s'.prev s.prev n ks d.prev on_ring.1) (d.prev g (flip n g off.0)) r.links;
          chain = chain_same s'.next s.next first fs (agrees_off s'.next s.next n fs d.next on_free) r.chain;
          apart = apart;
          full = full_off d v.entries on_ring.1 r.full;
          bare = all_zip (λ m k o. d.held m (flip n m o) ∙ k) (g ∷ fs) r.bare (off.0, on_free);
          there = all_both (Has s') out' (g ∷ (ks ++ fs)) has_out
              (all_zip (λ m k o. d.has m (flip n m o) ∙ k) (g ∷ (ks ++ fs)) there off);
          size = size;
          few = few;
          writes = writes;
        }

  has_not : (s : State K V) (n m : Node) → s.has n ≡ false → s.has m ≡ true → same_node n m ≡ false
  has_not s n m h k = (elim (same_node n m) as (λ (y : Bool). same_node n m ≡ y → y ≡ false) [
    | true ↦ λ e. let same : n ≡ m = eq-same_node n m e in sym k ∙ ap s.has (sym same) ∙ h
    | false ↦ λ e. refl
  ]) refl

  module _ {s s' : State K V} {g first n : Node} {v : Ring K V} where
    kept : {w : ℕ} → IsRing s (n ∷ []) g first v → Differs n s s' → s'.has n ≡ true → s'.size ≡ s.size
        → s'.link_writes ≡ w → IsRing s' (n ∷ []) g first (ring v.entries v.free w)
    kept r d has size =
        carried r (IsDistinct-head same_node n _ r.apart) d r.there.1 (n ∷ []) r.apart (has, tt)
        (size ∙ r.size) r.few

    pub added : IsRing s [] g first v → Adds n s s' → length v.entries + length v.free + 1 < 2 ^ 63
        → IsRing s' (n ∷ []) g first v
    added r a few =
        let off = all_as (λ m k. has_not s n m a.absent k) (g ∷ (keys_of v.entries ++ v.free)) r.there in
        carried r off a.differs r.there (n ∷ []) (IsDistinct-cons same_node n _ off r.apart)
        (a.there, tt) (omega (arith, r.size, a.size)) (omega (arith, few)) (a.link_writes ∙ r.writes)

    pub dropped : IsRing s (n ∷ []) g first v → Drops n s s' → IsRing s' [] g first v
    dropped r d =
        carried r (IsDistinct-head same_node n _ r.apart) d.differs r.there.1 []
        (IsDistinct-tail same_node n _ r.apart) tt (omega (arith, r.size, d.size))
        (omega (arith, r.few)) (d.link_writes ∙ r.writes)

  module _ {s s' : State K V} {g first n : Node} {v : Ring K V} (r : IsRing s (n ∷ []) g first v) where
    pub holds_now : (o : Option (Entry K V)) → s' ≡ hold n o s → IsRing s' (n ∷ []) g first v
    unfolding hold
    holds_now o is =
        subst (λ t. IsRing t (n ∷ []) g first v) (sym is)
        (kept r (differs_hold n o s) r.there.0 refl r.writes)

    -- it becomes the first free node
    pub spared : s.held n ≡ None → s' ≡ store_next n first s
        → IsRing s' [] g n (ring v.entries (n ∷ v.free) (v.link_writes + 1))
    unfolding store_next
    spared bare is =
        let ks = keys_of v.entries in let f' = set_at s.next n first in
        let d : Differs n s (store_next n first s) = record {
          next = λ m k. set_at_other s.next n m first k;
          prev = λ m k. refl;
          held = λ m k. refl;
          has = λ m k. refl;
        } in
        let k = kept r d r.there.0 refl (ap (λ w. w + 1) r.writes) in
        subst (λ t. IsRing t [] g n (ring v.entries (n ∷ v.free) (v.link_writes + 1))) (sym is) (record {
          links = k.links;
          chain = (refl, subst (λ m. IsChain f' m v.free) (sym (set_at_here s.next n first)) k.chain);
          apart = from_front (g ∷ ks) n v.free r.apart;
          full = k.full;
          bare = (r.bare.0, (bare, r.bare.1));
          there = all_with (Has s) (g ∷ ks) n v.free r.there.0 r.there.1;
          size = omega (arith, r.size);
          few = omega (arith, r.few);
          writes = k.writes;
        })

  -- ---- the first free node is taken from the free list
  pub record Taken (s : State K V) (g first : Node) (v : Ring K V) : Type 0 where
    pub ring : IsRing s (first ∷ []) g (s.next first) (ring v.entries (drop 1 v.free) v.link_writes)
    pub bare : s.held first ≡ None
    pub has_node : s.has first ≡ true

  pub take_spare : (s : State K V) (g first : Node) (es : Entries K V) (fs : List Node) (w : ℕ)
      → IsRing s [] g first (ring es fs w) → 0 < length fs → Taken s g first (ring es fs w)
  take_spare s g first es [] w r some = absurd (omega (arith, some))
  take_spare s g first es (n ∷ fs) w r some =
      let ks = keys_of es in let there = all_middle (Has s) (g ∷ ks) n fs r.there in
      subst (λ m. Taken s g m (ring es (n ∷ fs) w)) (sym r.chain.0) (record {
        ring = record {
          links = r.links;
          chain = r.chain.1;
          apart = to_front (g ∷ ks) n fs r.apart;
          full = r.full;
          bare = (r.bare.0, r.bare.1.1);
          there = (there, all_without (Has s) (g ∷ ks) n fs r.there);
          size = omega (arith, r.size);
          few = omega (arith, r.few);
          writes = r.writes;
        };
        bare = r.bare.1.0;
        has_node = there;
      })

  -- ---- the first block is the guard's
  pub guarded : {s s' : State K V} {g : Node} {w : ℕ} (first : Node) → s.size ≡ 0 → s.link_writes ≡ w
      → MakesGuard g s s' → IsRing s' [] g first (ring [] [] w)
  unfolding IsDistinct
  guarded first none writes m = record {
    links = (m.next, m.prev);
    chain = tt;
    apart = (tt, tt);
    full = tt;
    bare = (m.adds.bare, tt);
    there = (m.adds.there, tt);
    size = omega (arith, none, m.adds.size);
    few = lit< tt;
    writes = m.adds.link_writes ∙ writes;
  }
