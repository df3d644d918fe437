-- A chain: its blocks are taken out of those of a ring, and its entries at the ends.
use Rattle.hashlink_nodes.proofs.Names
use Names.{◌≡◌, ℕ, ◌+◌, ◌-◌, ◌<◌, true, cond, List, [], ◌∷◌, ◌++◌, length, None, Some}
use Names.{refl}
use Names.{sym, ap, ◌∙◌, subst, arith, is_some, AllByRecursion, IsDistinct, IsDistinct-head, IsDistinct-tail}
use Names.{keys_of, lookup, remove_entry, length-append, length-keys_of, Node, same_node, same_node-refl}
use Names.{State}
use Names.{Blocks, state, next_in, prev_in, held_in, hold, Drops, Differs, IsChain, IsLinked, Entry, Kept}
use Names.{walk}
use Names.{entries_of, append-nil, IsRing, Ring, ring, store_next, store_prev}
use Names.{Inside, IsSound, ring_of, state_of, nil_from_length, option_map, pair_of, IsSome}
use Rattle.hashlink_nodes.specs.Blocks.{AreFound, with_block, blocks_of, without}
use Rattle.std.proofs.lemmas.List.{length-map}
use Rattle.hashlink_nodes.specs.Parting.{Agree, Parts, backwards, IsPath, IsWhole, entries_from, pairs_from}
use Rattle.hashlink_nodes.proofs.Paths.{IsOff, flip, all_left, all_right, all_both, all_as, all_zip}
use Rattle.hashlink_nodes.proofs.Paths.{chain_same}
use Rattle.hashlink_nodes.proofs.Paths.{Off, all_middle, to_front, from_front, walk-chain, set_at_here}
use Rattle.hashlink_nodes.proofs.Paths.{set_at_other}
use Rattle.hashlink_nodes.proofs.Paths.{chain_of_linked}
use Rattle.hashlink_nodes.proofs.{Cuts.{cut, same_some}, Opening.{length-removed, entries-held}}
use Rattle.hashlink_nodes.proofs.Opening.{Leaves, known, leaves, opened, view_is}
use Rattle.hashlink_nodes.proofs.Rings.{Entries, differs_hold, distinct_left, held_now, keys-append}

-- ---- the blocks of some nodes
module _ {T : Type 0} where
  -- the other nodes have the blocks that they had
  others-kept : (ns : List Node) (bs : List (Node × Kept T)) (m : Node) → IsOff m ns → AreFound ns bs
      → lookup (same_node m) (without ns bs) ≡ lookup (same_node m) bs
  others-kept [] bs m off f = refl
  others-kept (n ∷ ns) bs m off f = let c = cut bs n f.0 in
      others-kept ns (remove_entry (same_node n) bs) m off.1 f.1 ∙ ap (lookup (same_node m)) c.removed
      ∙ c.others m off.0

  pub are_found : (ns : List Node) (bs : List (Node × Kept T)) → IsDistinct same_node ns
      → AllByRecursion (λ n. is_some (lookup (same_node n) bs) ≡ true) ns → AreFound ns bs
  are_found [] bs d h = tt
  are_found (n ∷ ns) bs d h = let c = cut bs n h.0 in (
    h.0,
    are_found ns (remove_entry (same_node n) bs) (IsDistinct-tail same_node n ns d)
        (all_zip (λ m k o. ap is_some (ap (lookup (same_node m)) c.removed ∙ c.others m (flip n m o)) ∙ k)
        ns h.1 (IsDistinct-head same_node n ns d)),
  )

  -- the nodes have theirs
  given-kept : (ns : List Node) (bs : List (Node × Kept T)) → IsDistinct same_node ns → AreFound ns bs
      → AllByRecursion (λ m. lookup (same_node m) (blocks_of ns bs) ≡ lookup (same_node m) bs) ns
  given-kept [] bs d f = tt
  given-kept (n ∷ ns) bs d f =
      let c = cut bs n f.0 in let rest = blocks_of ns (remove_entry (same_node n) bs) in
      let is = ap (λ o. with_block n o rest) c.looked in (
        ap (lookup (same_node n)) is
            ∙ ap (λ y. cond y (Some c.value) (lookup (same_node n) rest)) (same_node-refl n) ∙ sym c.looked,
        all_zip (λ m k o. ap (lookup (same_node m)) is
            ∙ ap (λ y. cond y (Some c.value) (lookup (same_node m) rest)) (flip n m o) ∙ k
            ∙ ap (lookup (same_node m)) c.removed ∙ c.others m (flip n m o)) ns
            (given-kept ns (remove_entry (same_node n) bs) (IsDistinct-tail same_node n ns d) f.1)
            (IsDistinct-head same_node n ns d),
      )

  length-given : (ns : List Node) (bs : List (Node × Kept T)) → AreFound ns bs
      → length (blocks_of ns bs) ≡ length ns
  length-given [] bs f = refl
  length-given (n ∷ ns) bs f =
      let c = cut bs n f.0 in let rest = blocks_of ns (remove_entry (same_node n) bs) in
      omega (
        arith,
        ap (λ o. length (with_block n o rest)) c.looked,
        length-given ns (remove_entry (same_node n) bs) f.1,
      )

  length-without : (ns : List Node) (bs : List (Node × Kept T)) → AreFound ns bs
      → length (without ns bs) + length ns ≡ length bs
  length-without [] bs f = omega arith
  length-without (n ∷ ns) bs f =
      omega (arith, length-without ns (remove_entry (same_node n) bs) f.1, length-removed bs (cut bs n f.0))

all_backwards : (P : Node → Type 0) (ns : List Node) → AllByRecursion P ns → AllByRecursion P (backwards ns)
all_backwards P [] h = tt
all_backwards P (n ∷ ns) h = all_both P (backwards ns) (n ∷ []) (all_backwards P ns h.1) (h.0, tt)

backwards-pushed : (ns : List Node) (n : Node) → backwards (ns ++ n ∷ []) ≡ n ∷ backwards ns
backwards-pushed [] n = refl
backwards-pushed (m ∷ ns) n = ap (λ l. l ++ m ∷ []) (backwards-pushed ns n)

all_keys : {X : Type 0} (P : Node → Type 0) (es : List (Node × X)) → AllByRecursion P (keys_of es)
    → AllByRecursion (λ e. P e.0) es
all_keys P [] h = tt
all_keys P (e ∷ es) h = (h.0, all_keys P es h.1)

-- ---- distinct nodes
distinct_right : (xs ys : List Node) → IsDistinct same_node (xs ++ ys) → IsDistinct same_node ys
distinct_right [] ys d = d
distinct_right (x ∷ xs) ys d = distinct_right xs ys (IsDistinct-tail same_node x (xs ++ ys) d)

-- none of the rest is among the first
all_off : (xs ys : List Node) → IsDistinct same_node (xs ++ ys) → AllByRecursion (λ m. IsOff m xs) ys
all_off [] [] d = tt
all_off [] (y ∷ ys) d = (tt, all_off [] ys (IsDistinct-tail same_node y ys d))
all_off (x ∷ xs) ys d =
    all_zip (λ m o h. (flip x m o, h)) ys
    (all_right (Off x) xs ys (IsDistinct-head same_node x (xs ++ ys) d))
    (all_off xs ys (IsDistinct-tail same_node x (xs ++ ys) d))

-- ---- chains of links
chain_left : (f : Node → Node) (a : Node) (xs ys : List Node) → IsChain f a (xs ++ ys) → IsChain f a xs
chain_left f a [] ys c = tt
chain_left f a (x ∷ xs) ys c = (c.0, chain_left f (f x) xs ys c.1)

-- where the links lead after the nodes
end_of : (Node → Node) → Node → List Node → Node
end_of f a [] = a
end_of f a (x ∷ xs) = end_of f (f x) xs

chain_more : (f : Node → Node) (a : Node) (xs : List Node) (y : Node) → IsChain f a xs → end_of f a xs ≡ y
    → IsChain f a (xs ++ y ∷ [])
unfolding end_of
chain_more f a [] y c e = (e, tt)
chain_more f a (x ∷ xs) y c e = (c.0, chain_more f (f x) xs y c.1 e)

end_of-more : (f : Node → Node) (a : Node) (xs : List Node) (y : Node) → end_of f a (xs ++ y ∷ []) ≡ f y
unfolding end_of
end_of-more f a [] y = refl
end_of-more f a (x ∷ xs) y = end_of-more f (f x) xs y

back_to : (f b : Node → Node) (a : Node) (ns : List Node) (z : Node) → IsLinked f b a ns z
    → end_of b (b z) (backwards ns) ≡ a
unfolding end_of
back_to f b a [] z l = l.1
back_to f b a (n ∷ ns) z l = end_of-more b (b z) (backwards ns) n ∙ l.0.1

-- the links lead back along the nodes
pub chain_back : (f b : Node → Node) (a : Node) (ns : List Node) (z : Node) → IsLinked f b a ns z
    → IsChain b (b z) (backwards ns)
chain_back f b a [] z l = tt
chain_back f b a (n ∷ ns) z l =
    chain_more b (b z) (backwards ns) n (chain_back f b n ns z l.1) (back_to f b n ns z l.1)

module _ {K V : Type 0} where
  agree : (bs bs' : Blocks K V) (count count' : ℕ) (m : Node)
      → lookup (same_node m) bs' ≡ lookup (same_node m) bs → Agree m (state bs count) (state bs' count')
  agree bs bs' count count' m e = record {
    next = ap next_in e;
    prev = ap prev_in e;
    held = ap held_in e;
    has = ap is_some e;
  }

  -- ---- the blocks of a path are taken out
  pub parts : (ns : List Node) (bs bs' : Blocks K V) (count : ℕ) → AreFound ns bs → bs' ≡ without ns bs
      → Parts ns (state bs count) (state bs' count)
  parts ns bs bs' count f is = record {
    others = λ m off. agree bs bs' count count m (ap (lookup (same_node m)) is ∙ others-kept ns bs m off f);
    size = ap (λ (x : Blocks K V). length x + length ns) is ∙ length-without ns bs f;
    link_writes = refl;
  }

  path_moved : {s s' : State K V} {first last : Node} (es : Entries K V)
      → AllByRecursion (λ n. Agree n s s') (keys_of es) → IsPath s first last es → IsPath s' first last es
  path_moved {s} {s'} {first} {last} es all p = let ks = keys_of es in record {
    on = chain_same s'.next s.next first ks (all_as (λ m a. a.next) ks all) p.on;
    back = chain_same s'.prev s.prev last (backwards ks)
        (all_backwards (λ m. s'.prev m ≡ s.prev m) ks (all_as (λ m a. a.prev) ks all)) p.back;
    apart = p.apart;
    full = all_zip (λ e a h. a.held ∙ h) es (all_keys (λ n. Agree n s s') es all) p.full;
    there = all_zip (λ m a h. a.has ∙ h) ks all p.there;
  }

  -- a chain is closed
  pub record ChainIs (s : State K V) (first last : Node) (len : ℕ) (es : Entries K V) : Type 0 where
    pub whole : IsWhole s first last len
    pub is : entries_from s first len ≡ es

  pub chain_is : {s : State K V} {first last : Node} {len : ℕ} {es : Entries K V} → IsPath s first last es
      → length es ≡ len → s.size ≡ len → ChainIs s first last len es
  chain_is {s} {first} {last} {len} {es} p is_len size =
      let is : entries_from s first len ≡ es
      = ap (λ k. entries_of s.held (walk s.next first k)) (sym (length-keys_of es ∙ is_len))
      ∙ ap (entries_of s.held) (walk-chain s.next first (keys_of es) p.on) ∙ entries-held s.held es p.full in
      record {
        whole = record {
          is_len = ap length is ∙ is_len;
          path = subst (IsPath s first last) (sym is) p;
          size = size;
        };
        is = is;
      }

  pub taken_out : (bs bs' : Blocks K V) (count : ℕ) {count' : ℕ} {first last : Node} {len : ℕ}
      (es : Entries K V) → IsPath (state bs count) first last es → length es ≡ len
      → bs' ≡ blocks_of (keys_of es) bs
      → ChainIs (state bs' count') first last len es
  taken_out bs bs' count {count'} es p is_len is =
      let ks = keys_of es in let f = are_found ks bs p.apart p.there in
      chain_is (path_moved es (all_as (λ m e. agree bs bs' count count' m (ap (lookup (same_node m)) is ∙ e))
      ks (given-kept ks bs p.apart f)) p) is_len
      (ap length is ∙ length-given ks bs f ∙ length-keys_of es ∙ is_len)

  pub no_chain : (s : State K V) (first last : Node) → s.size ≡ 0 → ChainIs s first last 0 []
  unfolding IsDistinct
  no_chain s first last size =
      chain_is (record { on = tt; back = tt; apart = tt; full = tt; there = tt }) refl size

  -- ---- an entry is taken at an end, which leaves the first and the last node
  pub record IsEnd (s : State K V) (n first last : Node) (len : ℕ) (rest : Entries K V) (h : Entry K V) :
      Type 0 where
    pub has : s.has n ≡ true
    pub holds : s.held n ≡ Some h
    pub pair : {p : K × V} → option_map pair_of (s.held n) ≡ Some p → pair_of h ≡ p
    pub has_yet : {s₁ : State K V} → s₁ ≡ hold n None s → s₁.has n ≡ true
    pub bare : {s₁ : State K V} → s₁ ≡ hold n None s → s₁.held n ≡ None
    pub leaves : {s₁ s₂ : State K V} → s₁ ≡ hold n None s → Drops n s₁ s₂
        → ChainIs s₂ first last (len - 1) rest

  without_end : {s : State K V} {n first last : Node} {len : ℕ} {rest : Entries K V} {h : Entry K V}
      → length rest + 1 ≡ len → s.size ≡ len → s.has n ≡ true → s.held n ≡ Some h
      → IsOff n (keys_of rest) → IsPath s first last rest → IsEnd s n first last len rest h
  unfolding hold
  without_end {s} {n} {rest = rest} is_len size has holds off p = record {
    has = has;
    holds = holds;
    pair = λ was. same_some (ap (option_map pair_of) (sym holds) ∙ was);
    has_yet = λ is. ap (λ (t : State K V). t.has n) is ∙ has;
    bare = λ is. held_now s is;
    leaves = λ {s₁} {s₂} is d.
        let b = subst (Differs n s) (sym is) (differs_hold n None s) in
        let same : s₁.size ≡ s.size = ap (λ (t : State K V). t.size) is in
        chain_is (path_moved rest (all_as (λ m o. let k = flip n m o in record {
          next = d.differs.next m k ∙ b.next m k;
          prev = d.differs.prev m k ∙ b.prev m k;
          held = d.differs.held m k ∙ b.held m k;
          has = d.differs.has m k ∙ b.has m k;
        }) (keys_of rest) off) p) (omega arith) (omega (arith, d.size));
  }

  -- a contract sees the entry, so it is there
  some_left : {s : State K V} {first last : Node} {len : ℕ} {ps : List (K × V)} → IsWhole s first last len
      → pairs_from s first len ≡ ps → 0 < length ps → 0 < len
  some_left {s} {first} {len = len} w is some =
      omega (arith, some, ap length is, length-map (entries_from s first len) (λ e. pair_of e.1), w.is_len)

  -- at the front; m is the next node
  pub record Front (s : State K V) (first m last : Node) (len : ℕ) : Type 0 where
    pub entry : Entry K V
    pub rest : Entries K V
    pub is : entries_from s first len ≡ (first, entry) ∷ rest
    pub end : IsEnd s first m last len rest entry

  front_of : {s : State K V} {first last : Node} {len : ℕ} (es : Entries K V) → entries_from s first len ≡ es
      → IsPath s first last es → length es ≡ len → s.size ≡ len → 0 < len
      → Front s first (s.next first) last len
  front_of [] is p is_len size some = absurd (omega (arith, some, is_len))
  front_of {s} {first} {last} {len} (e ∷ es) is p is_len size some = let at : first ≡ e.0 = p.on.0 in record {
    entry = e.1;
    rest = es;
    is = is ∙ ap (λ m. (m, e.1) ∷ es) (sym at);
    end = subst (λ m. IsEnd s m (s.next m) last len es e.1) (sym at)
        (without_end (omega (arith, is_len)) size p.there.0 p.full.0
        (IsDistinct-head same_node e.0 (keys_of es) p.apart) (record {
          on = p.on.1;
          back = chain_left s.prev last (backwards (keys_of es)) (e.0 ∷ []) p.back;
          apart = IsDistinct-tail same_node e.0 (keys_of es) p.apart;
          full = p.full.1;
          there = p.there.1;
        }));
  }

  pub at_front : {s : State K V} {first m last : Node} {len : ℕ} {ps : List (K × V)}
      → IsWhole s first last len → pairs_from s first len ≡ ps → 0 < length ps → m ≡ s.next first
      → Front s first m last len
  at_front {s} {first} {last = last} {len} w is some is_m =
      subst (λ k. Front s first k last len) (sym is_m)
      (front_of _ refl w.path w.is_len w.size (some_left w is some))

  -- at the back; m is the previous node
  pub record Back (s : State K V) (first m last : Node) (len : ℕ) : Type 0 where
    pub entry : Entry K V
    pub rest : Entries K V
    pub is : entries_from s first len ≡ rest ++ (last, entry) ∷ []
    pub end : IsEnd s last first m len rest entry

  record Pushed (es : Entries K V) : Type 0 where
    before : Entries K V
    last : Node × Entry K V
    is : es ≡ before ++ last ∷ []

  pushed : (es : Entries K V) → 0 < length es → Pushed es
  pushed [] some = absurd (omega (arith, some))
  pushed (e ∷ []) some = record { before = []; last = e; is = refl }
  pushed (e ∷ x ∷ es) some = let p = pushed (x ∷ es) (omega arith) in
      record { before = e ∷ p.before; last = p.last; is = ap (λ l. e ∷ l) p.is }

  back_of : {s : State K V} {first last : Node} {len : ℕ} (es : Entries K V) (e : Node × Entry K V)
      → entries_from s first len ≡ es ++ e ∷ [] → IsPath s first last (es ++ e ∷ [])
      → length (es ++ e ∷ []) ≡ len → s.size ≡ len → Back s first (s.prev last) last len
  back_of {s} {first} {last} {len} es e is p is_len size =
      let ks = keys_of es in let keys = keys-append es (e ∷ []) in
      let back : IsChain s.prev last (e.0 ∷ backwards ks)
      = subst (IsChain s.prev last) (ap backwards keys ∙ backwards-pushed ks e.0) p.back in
      let there = subst (AllByRecursion (λ n. s.has n ≡ true)) keys p.there in
      let apart : IsDistinct same_node (e.0 ∷ ks)
      = subst (λ l. IsDistinct same_node (e.0 ∷ l)) (append-nil ks)
      (to_front ks e.0 [] (subst (IsDistinct same_node) keys p.apart)) in
      let at : last ≡ e.0 = back.0 in record {
        entry = e.1;
        rest = es;
        is = is ∙ ap (λ m. es ++ (m, e.1) ∷ []) (sym at);
        end = subst (λ m. IsEnd s m first (s.prev m) len es e.1) (sym at)
            (without_end (omega (arith, is_len, length-append es (e ∷ []))) size
            (all_middle (λ n. s.has n ≡ true) ks e.0 [] there)
            (all_middle (λ x. s.held x.0 ≡ Some x.1) es e [] p.full)
            (IsDistinct-head same_node e.0 ks apart) (record {
              on = chain_left s.next first ks (e.0 ∷ []) (subst (IsChain s.next first) keys p.on);
              back = back.1;
              apart = IsDistinct-tail same_node e.0 ks apart;
              full = all_left (λ x. s.held x.0 ≡ Some x.1) es (e ∷ []) p.full;
              there = all_left (λ n. s.has n ≡ true) ks (e.0 ∷ []) there;
            }));
      }

  pub at_back : {s : State K V} {first m last : Node} {len : ℕ} {ps : List (K × V)}
      → IsWhole s first last len → pairs_from s first len ≡ ps → 0 < length ps → m ≡ s.prev last
      → Back s first m last len
  at_back {s} {first} {last = last} {len} w is some is_m =
      let p = pushed (entries_from s first len) (omega (arith, some_left w is some, w.is_len)) in
      subst (λ k. Back s first k last len) (sym is_m)
      (back_of p.before p.last p.is (subst (IsPath s first last) p.is w.path)
      (ap length (sym p.is) ∙ w.is_len) w.size)

  -- ---- the entries of `left` nodes from n on
  pub record Left (s : State K V) (n : Node) (left : ℕ) : Type 0 where
    pub rest : Entries K V
    pub is_len : length rest ≡ left
    pub on : IsChain s.next n (keys_of rest)
    pub full : AllByRecursion (λ e. s.held e.0 ≡ Some e.1) rest
    pub there : AllByRecursion (λ m. s.has m ≡ true) (keys_of rest)

  pub all_left_at : {s : State K V} {first last : Node} {len left : ℕ} → IsWhole s first last len → left ≡ len
      → Left s first left
  all_left_at {s} {first} {len = len} w is = record {
    rest = entries_from s first len;
    is_len = omega (arith, w.is_len, is);
    on = w.path.on;
    full = w.path.full;
    there = w.path.there;
  }

  pub record Passes (s : State K V) (n : Node) (left : ℕ) : Type 0 where
    pub has : s.has n ≡ true
    pub holds : IsSome (s.held n)
    pub after : {m : Node} {less : ℕ} → m ≡ s.next n → less + 1 ≡ left → Left s m less

  passes_from : {s : State K V} {n : Node} {left : ℕ} (es : Entries K V) → length es ≡ left
      → IsChain s.next n (keys_of es) → AllByRecursion (λ e. s.held e.0 ≡ Some e.1) es
      → AllByRecursion (λ m. s.has m ≡ true) (keys_of es) → 0 < left → Passes s n left
  passes_from [] is_len on full there some = absurd (omega (arith, is_len, some))
  passes_from {s} {n} {left} (e ∷ es) is_len on full there some =
      subst (λ m. Passes s m left) (sym on.0) (record {
        has = there.0;
        holds = ap is_some full.0;
        after = λ is fewer. record {
          rest = es;
          is_len = omega (arith, is_len, fewer);
          on = subst (λ k. IsChain s.next k (keys_of es)) (sym is) on.1;
          full = full.1;
          there = there.1;
        };
      })

  pub passes : {s : State K V} {n : Node} {left : ℕ} → Left s n left → 0 < left → Passes s n left
  passes l some = passes_from l.rest l.is_len l.on l.full l.there some

  -- ---- all entries of a ring
  module _ {s : State K V} {out : List Node} {g first : Node} {v : Ring K V} (r : IsRing s out g first v)
    where
      -- they are a path between the nodes beside the guard
      pub ring_path : {a z : Node} → a ≡ s.next g → z ≡ s.prev g → IsPath s a z v.entries
      ring_path {a} {z} is_a is_z =
          let ks = keys_of v.entries in
          let there = all_right (λ n. s.has n ≡ true) out (g ∷ (ks ++ v.free)) r.there in
          let apart = distinct_right out (g ∷ (ks ++ v.free)) r.apart in
          record {
            on = subst (λ m. IsChain s.next m ks) (sym is_a) (chain_of_linked s.next s.prev g ks g r.links);
            back = subst (λ m. IsChain s.prev m (backwards ks)) (sym is_z)
                (chain_back s.next s.prev g ks g r.links);
            apart = distinct_left ks v.free (IsDistinct-tail same_node g (ks ++ v.free) apart);
            full = r.full;
            there = all_left (λ n. s.has n ≡ true) ks v.free there.1;
          }

  -- what is left of the ring once they are taken out, and the guard is linked to itself
  pub emptied : {s s₁ s₂ s₃ : State K V} {g first : Node} {v : Ring K V} → IsRing s [] g first v
      → Parts (keys_of v.entries) s s₁ → s₂ ≡ store_next g g s₁ → s₃ ≡ store_prev g g s₂
      → IsRing s₃ [] g first (ring [] v.free (v.link_writes + 2))
  unfolding store_next store_prev
  emptied {s} {s₁} {s₂} {s₃} {g} {first} {v} r p is₂ is₃ =
      let ks = keys_of v.entries in let fs = v.free in
      let apart = from_front ks g fs r.apart in
      let off_g : IsOff g fs = all_right (Off g) ks fs (IsDistinct-head same_node g (ks ++ fs) r.apart) in
      let others : AllByRecursion (λ m. Agree m s s₁) (g ∷ fs)
      = all_as p.others (g ∷ fs) (all_off ks (g ∷ fs) apart) in
      let t : State K V = store_prev g g (store_next g g s₁) in
      let is : t ≡ s₃ = sym (is₃ ∙ ap (store_prev g g) is₂) in
      subst (λ x. IsRing x [] g first (ring [] fs (v.link_writes + 2))) is (record {
        links = (set_at_here s₁.next g g, set_at_here s₁.prev g g);
        chain = chain_same t.next s.next first fs
            (all_zip (λ m a o. set_at_other s₁.next g m g (flip g m o) ∙ a.next) fs others.1 off_g) r.chain;
        apart = distinct_right ks (g ∷ fs) apart;
        full = tt;
        bare = all_zip (λ m a h. a.held ∙ h) (g ∷ fs) others r.bare;
        there = all_zip (λ m a h. a.has ∙ h) (g ∷ fs) others
            (r.there.0, all_right (λ n. s.has n ≡ true) ks fs r.there.1);
        size = omega (arith, r.size, p.size, length-keys_of v.entries);
        few = omega (arith, r.few);
        writes = omega (arith, r.writes, p.link_writes);
      })

  module _ {n : Inside K V} (sound : IsSound n) {v : Ring K V} (view : ring_of n ≡ v) where
    pub no_entries : n.len ≡ 0 → v.entries ≡ []
    no_entries none = nil_from_length v.entries ((known sound view).is_len ∙ none)

    module _ {g a : Node} (is : n.guard ≡ Some g) (is_a : a ≡ (state_of n.pool).next g) where
      pub all_entries : entries_from (state_of n.pool) a n.len ≡ v.entries
      all_entries =
          ap (λ m. entries_from (state_of n.pool) m n.len) is_a
          ∙ ap (λ (r : Ring K V). r.entries) (view_is sound view is)

      pub are_path : {z : Node} → z ≡ (state_of n.pool).prev g
          → IsPath (state_of n.pool) a z (entries_from (state_of n.pool) a n.len)
      are_path {z} is_z =
          subst (IsPath (state_of n.pool) a z) (sym all_entries)
          (ring_path (opened sound view is) is_a is_z)

      pub are_len : length (entries_from (state_of n.pool) a n.len) ≡ n.len
      are_len = ap length all_entries ∙ (known sound view).is_len

      module _ {s₁ : State K V}
          (p : Parts (keys_of (entries_from (state_of n.pool) a n.len)) (state_of n.pool) s₁) where
        parted : Parts (keys_of v.entries) (state_of n.pool) s₁
        parted = subst (λ es. Parts (keys_of es) (state_of n.pool) s₁) all_entries p

        pub guard_has : s₁.has g ≡ true
        guard_has =
            let r = opened sound view is in
            (parted.others g (all_left (Off g) (keys_of v.entries) v.free
            (IsDistinct-head same_node g (keys_of v.entries ++ v.free) r.apart))).has ∙ r.there.0

        pub all_taken : {s₂ s₃ : State K V} → s₂ ≡ store_next g g s₁ → s₃ ≡ store_prev g g s₂
            → Leaves s₃ n.guard n.first_spare 0 n.spare (ring [] v.free (v.link_writes + 2))
        all_taken is₂ is₃ =
            leaves is (emptied (opened sound view is) parted is₂ is₃) refl (known sound view).is_spare
