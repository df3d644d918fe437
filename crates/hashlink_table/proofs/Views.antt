-- What a contract sees of the cells: their nodes, and how many of them agree with a hash.
use Rattle.hashlink_table.proofs.Names
use Names.{◌≡◌, ℕ, zero, suc, ◌+◌, ◌-◌, ◌%◌, ◌<◌, ◌≤◌, inl, inr, Bool, true, false, cond, eqb, List, [], ◌∷◌}
use Names.{◌++◌, length, get_or, take, drop, Option, Some, None, count_by, refl, sym, ap, ◌∙◌, arith}
use Names.{Contains, IsPowerOfTwo, mod-mod_of_dvd, dvd_of_mod-eq-zero, cases_lt, eq-eqb, eqb-true, ne_eqb}
use Names.{true≢false, take-append-drop, sum_by-cons, sum_by-append, chunk-drop, get_or-chunk, length-chunk}
use Names.{Hashed, Cell, Head, Contents, agreeing, AreBuckets, CanAsk, kept_at, own_at, own_of, guest_at}
use Names.{guest_of}
use Names.{bucket_in, with_node, nodes_in, contents, AreGrouped, IsInPlace, IsSound, kept_may_be, lanes_of}
use Names.{chain_of, may_be, bare_cell, tag_of, ◌/◌}
use Rattle.hashlink_table.proofs.{Groups.{group_within, grouped_in}, Linking.positive_by_power}
use Rattle.hashlink_table.proofs.Nodes.{at-contains}

-- the number of elements that pass, with one more element
count_by-cons : {X : Type 0} (p : X → Bool) (x : X) (xs : List X)
    → count_by p (x ∷ xs) ≡ cond (p x) 1 0 + count_by p xs
count_by-cons p x xs = sum_by-cons (λ y. cond (p y) 1 0) x xs

-- fewer elements pass a stronger test
count_by-weaker : {X : Type 0} (p q : X → Bool) (d : X) (xs : List X)
    → ((k : ℕ) → k < length xs → p (get_or xs k d) ≡ true → q (get_or xs k d) ≡ true)
    → count_by p xs ≤ count_by q xs
count_by-weaker p q d [] weaker = omega arith
count_by-weaker p q d (x ∷ xs) weaker =
    let rest = count_by-weaker p q d xs (λ k low e. weaker (suc k) (omega (arith, low)) e) in
    let here : cond {A = ℕ} (p x) 1 0 ≤ cond (q x) 1 0 = by (p x) (q x) (weaker zero (omega arith)) in
    omega (arith, rest, here, count_by-cons p x xs, count_by-cons q x xs)
  where
    by : (a b : Bool) → (a ≡ true → b ≡ true) → cond {A = ℕ} a 1 0 ≤ cond b 1 0
    by true b h = rw (h refl) (omega arith)
    by false true h = omega arith
    by false false h = omega arith

module _ {N : Type 0} where
  -- to count nodes is to count cells
  count_by-nodes_in : (p : Hashed N → Bool) (q : Option (Hashed N) → Bool) (cells : List (Cell N))
      → q None ≡ false → ((k : Hashed N) → q (Some k) ≡ p k)
      → count_by p (nodes_in cells) ≡ count_by (λ c. q c.kept) cells
  count_by-nodes_in p q [] none some = refl
  count_by-nodes_in p q (c ∷ cs) none some =
      let rest : count_by p (nodes_in cs) ≡ count_by (λ c. q c.kept) cs = count_by-nodes_in p q cs none some
      in
      elim c.kept as
      (λ k. count_by p (with_node k (nodes_in cs)) ≡ cond (q k) 1 0 + count_by (λ c. q c.kept) cs) [
        | None ↦ rw none (omega arith)
        | Some k ↦ rw (some k) (count_by-cons p k (nodes_in cs) ∙ ap (λ n. cond (p k) 1 0 + n) rest)
      ] ∙ sym (count_by-cons (λ d. q d.kept) c cs)

  -- the cells whose node passes are those whose node of their group does, and those whose guest does
  count_by-parts : (q : Option (Hashed N) → Bool) (cells : List (Cell N)) → q None ≡ false
      → count_by (λ c. q (own_of c)) cells + count_by (λ c. q (guest_of c)) cells
      ≡ count_by (λ c. q c.kept) cells
  count_by-parts q [] none = refl
  count_by-parts q (c ∷ cs) none =
      let rest = count_by-parts q cs none in
      let here : cond {A = ℕ} (q (own_of c)) 1 0 + cond {A = ℕ} (q (guest_of c)) 1 0
      ≡ cond {A = ℕ} (q c.kept) 1 0 = elim c.guest
      as (λ b. cond {A = ℕ} (q (cond b None c.kept)) 1 0 + cond {A = ℕ} (q (cond b c.kept None)) 1 0
      ≡ cond {A = ℕ} (q c.kept) 1 0) [ true ↦ rw none (omega arith) | false ↦ rw none (omega arith) ] in
      omega (
        arith,
        rest,
        here,
        count_by-cons (λ d. q (own_of d)) c cs,
        count_by-cons (λ d. q (guest_of d)) c cs,
        count_by-cons (λ d. q d.kept) c cs,
      )

  -- a node of the group whose tag is the hash's agrees with the hash
  pub tag_agrees : (m b hash at : ℕ) (o : Option (Hashed N)) → 0 < m → m % 16 ≡ 0 → b ≡ hash % m
      → ((k : Hashed N) → o ≡ Some k → AreGrouped (k.hash % m) at) → AreGrouped b at
      → kept_may_be hash o ≡ true
      → eqb (bucket_in m o) b ≡ true
  tag_agrees m b hash at None some whole is own here e = absurd (true≢false (sym e))
  tag_agrees m b hash at (Some k) some whole is own here e =
      let divides = dvd_of_mod-eq-zero 16 whole in
      let low : k.hash % m % 16 ≡ k.hash % 16 = mod-mod_of_dvd 16 k.hash divides in
      let sought : hash % m % 16 ≡ hash % 16 = mod-mod_of_dvd 16 hash divides in
      let tags : tag_of k.hash ≡ tag_of hash = eqb-true (tag_of k.hash) (tag_of hash) e in
      let grouped = own k refl in
      eq-eqb (k.hash % m) b (omega (arith, low, sought, tags, grouped, here, is))

  -- a guest of the group of a bucket, with the guest's tag of the bucket, is of the bucket
  pub guest_agrees : (m hash : ℕ) (o : Option (Hashed N)) → m % 16 ≡ 0 → chain_of m o ≡ hash % m / 16
      → kept_may_be hash o ≡ true
      → eqb (bucket_in m o) (hash % m) ≡ true
  guest_agrees m hash None whole on e = absurd (true≢false (sym e))
  guest_agrees m hash (Some k) whole on e =
      let divides = dvd_of_mod-eq-zero 16 whole in
      let low : k.hash % m % 16 ≡ k.hash % 16 = mod-mod_of_dvd 16 k.hash divides in
      let sought : hash % m % 16 ≡ hash % 16 = mod-mod_of_dvd 16 hash divides in
      let tags : tag_of k.hash ≡ tag_of hash = eqb-true (tag_of k.hash) (tag_of hash) e in
      eq-eqb (k.hash % m) (hash % m) (omega (arith, low, sought, tags, on))

  -- the count in a group is at most the count in all cells
  count_by-lanes : (p q : Cell N → Bool) (cells : List (Cell N)) (base : ℕ) → base + 16 ≤ length cells
      → ((k : ℕ) → k < 16 → p (get_or cells (base + k) bare_cell) ≡ true
      → q (get_or cells (base + k) bare_cell) ≡ true)
      → count_by p (lanes_of cells base) ≤ count_by q cells
  count_by-lanes p q cells base room weaker =
      let lanes = lanes_of cells base in
      let rest = drop (base + 16) cells in
      let long = length-chunk base 16 cells room in
      let fewer : count_by p lanes ≤ count_by q lanes
      = count_by-weaker p q bare_cell lanes (λ k low e.
      let at = get_or-chunk base 16 cells k bare_cell (omega (arith, low, long)) in
      ap q at ∙ weaker k (omega (arith, low, long)) (ap p (sym at) ∙ e)) in
      let cut : cells ≡ take base cells ++ (lanes ++ rest)
      = sym (take-append-drop base cells) ∙ ap (λ (ys : List (Cell N)). take base cells ++ ys)
      (chunk-drop base 16 cells) in
      let all : count_by q cells ≡ count_by q (take base cells) + (count_by q lanes + count_by q rest)
      = ap (count_by q) cut ∙ sum_by-append (λ c. cond (q c) 1 0) (take base cells) (lanes ++ rest)
      ∙ ap (λ n. count_by q (take base cells) + n) (sum_by-append (λ c. cond (q c) 1 0) lanes rest) in
      omega (arith, fewer, all)

  -- a search looks only at nodes of the hash's bucket: at those of its group with the tag, and at guests
  pub looked_at : (slots : List (Cell N)) (hash base : ℕ) → IsPowerOfTwo (length slots)
      → length slots % 16 ≡ 0 → IsInPlace slots → base ≡ hash % length slots - hash % length slots % 16
      → count_by (may_be hash) (lanes_of slots base)
      + count_by (λ c. eqb (bucket_in (length slots) (guest_of c)) (hash % length slots)) slots
      ≤ count_by (λ k. eqb (k.hash % length slots) (hash % length slots)) (nodes_in slots)
  looked_at slots hash base power whole in_place first =
      let m = length slots in let b = hash % m in
      let some = positive_by_power m power in
      let none = ne_eqb m b (λ e. omega (arith, some, e)) in
      let room : base + 16 ≤ m = omega (arith, first, group_within b m (omega arith) whole) in
      let own = count_by-lanes (may_be hash) (λ c. eqb (bucket_in m (own_of c)) b) slots base room
      (λ k lane e. tag_agrees m b hash (base + k) (own_at slots (base + k)) some whole refl
      (in_place (base + k)) (grouped_in b (base + k) (omega (arith, first)) (omega (arith, first, lane)))
      e) in
      omega (
        arith,
        own,
        count_by-parts (λ k. eqb (bucket_in m k) b) slots none,
        count_by-nodes_in (λ k. eqb (k.hash % m) b) (λ k. eqb (bucket_in m k) b) slots none (λ k. refl),
      )

  -- what holds for the nodes that are no guests, and for the guests, holds for each node
  pub none_left : (slots : List (Cell N)) (hash : ℕ) (refused : N → Type 0)
      → ((at : ℕ) (node : N) → own_at slots at ≡ Some (record { hash = hash; node = node }) → refused node)
      → ((at : ℕ) (node : N) → guest_at slots at ≡ Some (record { hash = hash; node = node })
      → refused node)
      → (node : N) → Contains (nodes_in slots) (record { hash = hash; node = node })
      → refused node
  none_left slots hash refused own guest node there =
      let at = at-contains slots _ there in
      let kept = kept_at slots at.0 in
      let sought : Option (Hashed N) = Some (record { hash = hash; node = node }) in
      elim (get_or slots at.0 bare_cell).guest
      as (λ b. (cond b None kept ≡ sought → refused node) → (cond b kept None ≡ sought → refused node)
      → refused node) [
        | true ↦ λ _ is. is at.1
        | false ↦ λ is _. is at.1
      ] (own at.0 node) (guest at.0 node)

-- the stored cells of a table, seen as v
module _ {N : Type 0} {slots : List (Cell N)} {heads : List Head} {len room : ℕ} {v : Contents N}
    (s : IsSound slots heads len room) (view : contents slots room ≡ v) where
  -- the number of its slots; a table with nodes has slots
  buckets_are : 0 < length slots → AreBuckets v (length slots)
  buckets_are some =
      record {
        power = s.sizes.masked some;
        roomy = omega (arith, s.sizes.headed, ap (λ (u : Contents N). u.room) view);
      }

  some_buckets : (len ≡ 0 → ⊥) → 0 < length slots
  some_buckets some = omega (arith, some, s.held, s.sizes.headed)

  -- so a search may ask about a node whose hash agrees
  pub can_ask : (hash : ℕ) (asked : N → Type 0) → CanAsk v hash asked → (len ≡ 0 → ⊥) → (h : ℕ) (node : N)
      → Contains (nodes_in slots) (record { hash = h; node = node })
      → h % length slots ≡ hash % length slots
      → asked node
  can_ask hash asked can some h node there agree =
      can h node (rw (← view) there) (length slots, buckets_are (some_buckets some), agree)

  -- the cost of a search, and of one that looks at no node
  pub search_cost : (hash before after : ℕ) → (len ≡ 0 → ⊥)
      → after ≤ before + count_by (λ k. eqb (k.hash % length slots) (hash % length slots)) (nodes_in slots)
      → (m : ℕ) × AreBuckets v m × (after ≤ before + agreeing v hash m)
  search_cost hash before after some cost = (length slots, buckets_are (some_buckets some), rw (← view) cost)

  pub no_cost : (hash before : ℕ) → (m : ℕ) × AreBuckets v m × (before ≤ before + agreeing v hash m)
  no_cost hash before =
      elim (cases_lt 0 (length slots)) as
      (λ _. (m : ℕ) × AreBuckets v m × (before ≤ before + agreeing v hash m)) [
        | inl some ↦ (length slots, buckets_are some, omega arith)
        | inr none ↦
            let room = ap (λ (u : Contents N). u.room) view in
            (1, record { power = (0, refl); roomy = omega (arith, s.sizes.headed, none, room) }, omega arith)
      ]
