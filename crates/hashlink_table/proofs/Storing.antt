-- The slots, from what is stored to what contracts see.
use Rattle.hashlink_table.proofs.Names
use Names.{◌≡◌, ℕ, zero, suc, ◌<◌, ◌≤◌, Bool, true, false, cond, ◌∷◌, eqb, List, [], length}
use Names.{map, not, take, drop, get_or, set, replicate, Some, None, refl, sym, ap, ◌∙◌, subst, arith}
use Names.{is_none, Option}
use Names.{is_some, IfSome, All, chunk, false≢true, get_or-map, length-map, map-id}
use Names.{map-set}
use Names.{set-get_or, take-map, drop-map, All-get_or, All-head, All-map, All-set, All-tail}
use Names.{map-map, splat_is_map, Hashed, Cell, END, Rest, kept_at, next_at, own_at, own_of, guest_at}
use Names.{guest_of}
use Names.{bare_cell, tag_of, slot, cells_in, may_be, kept_may_be, with_guest, with_kept, with_next}
use Names.{without_kept, IsStored, IsTagged, Row, Mark, free_mark, has_guest, has_own, is_free}
use Names.{is_guest}
use Names.{is_taken}
use Names.{emptied, same_Some, some_kept}
use Rattle.std.specs.{Prelude.IsSome, Option.option_map, Simd.Lanes.mask_l}

-- what a bare slot stores besides its node
abbrev pub bare : Rest
bare = record { hash = 0; link = END }

-- the element at an index
element : {X : Type 0} (xs : List X) (i : ℕ) → i < length xs → (x : X) × ((d : X) → get_or xs i d ≡ x)
element [] i low = absurd (omega arith)
element (x ∷ xs) zero low = (x, λ d. refl)
element (x ∷ xs) (suc i) low = element xs i (omega arith)

-- tests of sixteen elements
pub map-chunk : {X : Type 0} (f : X → Bool) (base : ℕ) (xs : List X)
    → chunk base 16 (map f xs) ≡ map f (chunk base 16 xs)
map-chunk f base xs = ap (take 16) (drop-map f base xs) ∙ take-map f 16 (drop base xs)

module _ {N : Type 0} where
  -- the lists store these cells
  abbrev pub AreCells : List Mark → List N → List Rest → List (Cell N) → Type 0
  AreCells ts ns rs v = IsTagged ts ns rs × (cells_in ts ns rs ≡ v)

  zipped : (rows : List (Row N))
      → cells_in (map (λ row. row.mark) rows) (map (λ row. row.node) rows) (map (λ row. row.rest) rows)
      ≡ map slot rows
  zipped [] = refl
  zipped (row ∷ rows) = ap (λ rest. slot row ∷ rest) (zipped rows)

  -- lists that are the parts of a list of rows store the cells of the rows
  by_rows : (rows : List (Row N)) (ts : List Mark) (ns : List N) (rs : List Rest) (v : List (Cell N))
      → All IsStored rows → ts ≡ map (λ row. row.mark) rows → ns ≡ map (λ row. row.node) rows
      → rs ≡ map (λ row. row.rest) rows → v ≡ map slot rows
      → AreCells ts ns rs v
  by_rows rows ts ns rs v stored tags nodes rests cells = (
    record { rows = rows; marks = tags; nodes = nodes; rests = rests; stored = stored },
    rw (tags, nodes, rests, cells) (zipped rows),
  )

  -- n bare cells
  pub bare_cells : (ns : List N) (a b n : ℕ) → length ns ≡ n → a ≡ n → b ≡ n
      → AreCells (replicate a free_mark) ns (replicate b bare) (replicate n bare_cell)
  bare_cells ns a b n long tags rests =
      let row : N → Row N = λ m. record { mark = free_mark; node = m; rest = bare } in
      by_rows (map row ns) _ _ _ _
      (All-map IsStored row ns (λ k d low. record {
        tagged = λ e. absurd (false≢true e);
        small = omega arith;
      }))
      (splat_is_map ns a free_mark (long ∙ sym tags) ∙ sym (map-map (λ (r : Row N). r.mark) row ns))
      (sym (map-map (λ (r : Row N). r.node) row ns ∙ map-id ns))
      (splat_is_map ns b bare (long ∙ sym rests) ∙ sym (map-map (λ (r : Row N). r.rest) row ns))
      (splat_is_map ns n bare_cell long ∙ sym (map-map slot row ns))

  -- the results of a test of tags are those of a test of cells
  tests-cells : (p : Mark → Bool) (q : Cell N → Bool)
      → ((row : Row N) → IsStored row → p row.mark ≡ q (slot row))
      → (rows : List (Row N)) → All IsStored rows
      → map p (map (λ row. row.mark) rows) ≡ map q (map slot rows)
  tests-cells p q agree [] h = refl
  tests-cells p q agree (row ∷ rows) h =
      let here = agree row (All-head IsStored row rows h) in
      let rest = tests-cells p q agree rows (All-tail IsStored row rows h) in
      cc

-- a slot with a node has a guest if it has none of its group
pub taken_guest : (m : Mark) → is_taken m ≡ true → not m.own ≡ is_guest m
taken_guest m taken =
    elim m.own as (λ own. cond own true m.guest ≡ true → not own ≡ cond own false m.guest)
    [ true ↦ λ _. refl | false ↦ λ e. sym e ] taken

-- a cell whose mark says so has a node of its group
pub own_found : {N : Type 0} (m : Mark) (c : Cell N) (n : N) → not m.own ≡ false → is_guest m ≡ c.guest
    → is_taken m ≡ is_some c.kept
    → (IsSome (own_of c) → IfSome (own_of c) (λ k. k.node ≡ n))
    → option_map (λ k. k.node) (own_of c) ≡ Some n
own_found {N} m c n own guest there read =
    elim m.own as (λ own. not own ≡ false → cond own false m.guest ≡ c.guest
    → cond own true m.guest ≡ is_some c.kept → option_map (λ k. k.node) (own_of c) ≡ Some n) [
      | true ↦ λ _ e t. by c.guest c.kept e t read
      | false ↦ λ e. absurd (false≢true (sym e))
    ] own guest there
  where
    by : (b : Bool) (o : Option (Hashed N)) → false ≡ b → true ≡ is_some o
        → (IsSome (cond b None o) → IfSome (cond b None o) (λ k. k.node ≡ n))
        → option_map (λ (k : Hashed N). k.node) (cond b None o) ≡ Some n
    by true o e t read = absurd (false≢true e)
    by false None e t read = absurd (false≢true (sym t))
    by false (Some k) e t read = ap (λ m. Some m) (read refl)

-- the hash of the node that a cell has
pub own_hash : {N : Type 0} (o : Option (Hashed N)) (n : N) → option_map (λ k. k.node) o ≡ Some n
    → (hash : ℕ) × (o ≡ some_kept hash n)
own_hash None n is = absurd (cc is)
own_hash (Some k) n is = (k.hash, ap (some_kept k.hash) (same_Some _ _ is))

-- the node for which this is stored, if there is one
abbrev pub node_of : {N : Type 0} → Row N → Hashed N
node_of row = record { hash = row.rest.hash; node = row.node }

-- tests of marks that agree with tests of cells
module _ {N : Type 0} (row : Row N) (is : IsStored row) where
  pub agrees_free : is_free row.mark ≡ is_none (let c : Cell N = slot row in c.kept)
  agrees_free =
      elim row.mark.own as (λ own. cond own false (cond row.mark.guest false true)
      ≡ is_none (cond (cond own true row.mark.guest) (Some (node_of row)) None)) [
        | true ↦ refl
        | false ↦ elim row.mark.guest as (λ guest. cond guest false true
            ≡ is_none (cond guest (Some (node_of row)) None)) [ true ↦ refl | false ↦ refl ]
      ]

  pub agrees_taken : is_taken row.mark ≡ is_some (let c : Cell N = slot row in c.kept)
  agrees_taken =
      elim (is_taken row.mark) as (λ b. b ≡ is_some (cond b (Some (node_of row)) None)) [
        | true ↦ refl
        | false
            ↦ refl
      ]

  pub agrees_may_have : (hash : ℕ) → has_own (tag_of hash) row.mark ≡ may_be hash (slot row)
  agrees_may_have hash = by row.mark.own row.mark.guest is.tagged
    where
      by : (own guest : Bool) → (cond own true guest ≡ true → row.mark.tag ≡ tag_of row.rest.hash)
          → cond own (eqb row.mark.tag (tag_of hash)) false
          ≡ kept_may_be hash (cond (cond own false guest) None (cond (cond own true guest) (Some (node_of
          row)) None))
      by true guest tagged = ap (λ t. eqb t (tag_of hash)) (tagged refl)
      by false true tagged = refl
      by false false tagged = refl

  agrees_guest : (hash : ℕ) → has_guest (tag_of hash) row.mark ≡ kept_may_be hash (guest_of (slot row))
  agrees_guest hash = by row.mark.own row.mark.guest is.tagged
    where
      by : (own guest : Bool) → (cond own true guest ≡ true → row.mark.tag ≡ tag_of row.rest.hash)
          → cond (cond own false guest) (eqb row.mark.tag (tag_of hash)) false
          ≡ kept_may_be hash (cond (cond own false guest) (cond (cond own true guest) (Some (node_of row))
          None) None)
      by true guest tagged = refl
      by false true tagged = ap (λ t. eqb t (tag_of hash)) (tagged refl)
      by false false tagged = refl

-- the stored lists, seen as v
module _ {N : Type 0} {ts : List Mark} {ns : List N} {rs : List Rest} {v : List (Cell N)}
    (h : IsTagged ts ns rs) (view : cells_in ts ns rs ≡ v) where
  cells : v ≡ map slot h.rows
  cells = sym view ∙ (by_rows h.rows ts ns rs _ h.stored h.marks h.nodes h.rests refl).1

  -- each list has as many elements as there are cells
  pub sizes : (length ts ≡ length v) × (length ns ≡ length v) × (length rs ≡ length v)
  sizes = (
    long (λ row. row.mark) ts h.marks,
    long (λ row. row.node) ns h.nodes,
    long (λ row. row.rest) rs h.rests,
  )
    where
      long : {X : Type 0} (f : Row N → X) (xs : List X) → xs ≡ map f h.rows → length xs ≡ length v
      long f xs is = ap length is ∙ length-map h.rows f ∙ sym (ap length cells ∙ length-map h.rows slot)

  -- the results of a test of the sixteen marks from `base` on are those of a test of the cells
  pub group_tests : (p : Mark → Bool) (q : Cell N → Bool)
      → ((row : Row N) → IsStored row → p row.mark ≡ q (slot row)) → (base bits : ℕ) (marks : List Mark)
      → bits ≡ mask_l (map p marks) → marks ≡ chunk base 16 ts
      → bits ≡ mask_l (map q (chunk base 16 v))
  group_tests p q agree base bits marks is at =
      let same : map p ts ≡ map q v
      = ap (map p) h.marks ∙ tests-cells p q agree h.rows h.stored ∙ ap (map q) (sym cells) in
      is ∙ ap mask_l (ap (map p) at ∙ sym (map-chunk p base ts) ∙ ap (chunk base 16) same ∙ map-chunk q base
      v)

  -- a cell is written
  pub written : (i : ℕ) (row : Row N) (us : List Mark) (ms : List N) (ds : List Rest) (d : Cell N)
      → IsStored row → us ≡ set ts i row.mark → ms ≡ set ns i row.node → ds ≡ set rs i row.rest → d ≡ slot row
      → AreCells us ms ds (set v i d)
  written i row us ms ds d stored tags nodes rests is =
      by_rows (set h.rows i row) us ms ds _ (All-set IsStored h.rows i row stored h.stored)
      (part (λ row. row.mark) ts us h.marks tags) (part (λ row. row.node) ns ms h.nodes nodes)
      (part (λ row. row.rest) rs ds h.rests rests) (part slot v _ cells (ap (set v i) is))
    where
      part : {X : Type 0} (f : Row N → X) (xs ys : List X) → xs ≡ map f h.rows → ys ≡ set xs i (f row)
          → ys ≡ map f (set h.rows i row)
      part f xs ys is to = cc (map-set f h.rows i row)

  -- all cells lose their nodes
  pub emptied_all : (n : ℕ) → n ≡ length v → AreCells (replicate n free_mark) ns rs (map emptied v)
  emptied_all n is =
      let bare_row : Row N → Row N = λ row. record row { mark = free_mark } in
      by_rows (map bare_row h.rows) _ _ _ _
      (All-map IsStored bare_row h.rows (λ k d low. record {
        tagged = λ e. absurd (false≢true e);
        small = (All-get_or IsStored h.rows k d low h.stored).small;
      }))
      (splat_is_map h.rows n free_mark (sym (is ∙ ap length cells ∙ length-map h.rows slot))
      ∙ sym (map-map (λ (r : Row N). r.mark) bare_row h.rows))
      (h.nodes ∙ sym (map-map (λ (r : Row N). r.node) bare_row h.rows))
      (h.rests ∙ sym (map-map (λ (r : Row N). r.rest) bare_row h.rows))
      (ap (map emptied) cells ∙ map-map emptied slot h.rows ∙ sym (map-map slot bare_row h.rows))

  -- the cell at i
  module _ (i : ℕ) (low : i < length v) where
    -- what is stored for it
    within : i < length h.rows
    within = omega (arith, low, ap length cells, length-map h.rows (slot {N = N}))

    here : (row : Row N) × ((d : Row N) → get_or h.rows i d ≡ row)
    here = element h.rows i within

    pub row : Row N
    row = here.0

    part_at : {X : Type 0} (f : Row N → X) (xs : List X) → xs ≡ map f h.rows → (d : X)
        → get_or xs i d ≡ f row
    unfolding row
    part_at f xs is d =
        ap (λ ys. get_or ys i d) is ∙ get_or-map f h.rows i here.0 d within ∙ ap f (here.1 here.0)

    pub mark_at : (d : Mark) → get_or ts i d ≡ row.mark
    mark_at d = part_at (λ row. row.mark) ts h.marks d

    pub node_at : (d : N) → get_or ns i d ≡ row.node
    node_at d = part_at (λ row. row.node) ns h.nodes d

    pub rest_at : (d : Rest) → get_or rs i d ≡ row.rest
    rest_at d = part_at (λ row. row.rest) rs h.rests d

    pub cell_at : get_or v i bare_cell ≡ slot row
    cell_at = part_at slot v cells bare_cell

    pub stored : IsStored row
    unfolding row
    stored = subst IsStored (here.1 here.0) (All-get_or IsStored h.rows i here.0 within h.stored)

    -- a write of its own node changes no node
    pub node_stays : ns ≡ set ns i row.node
    node_stays = sym (ap (set ns i) (sym (node_at row.node)) ∙ set-get_or ns i row.node)

    mark_stays : ts ≡ set ts i row.mark
    mark_stays = sym (ap (set ts i) (sym (mark_at row.mark)) ∙ set-get_or ts i row.mark)

    rest_stays : rs ≡ set rs i row.rest
    rest_stays = sym (ap (set rs i) (sym (rest_at row.rest)) ∙ set-get_or rs i row.rest)

    -- the cell by its mark
    pub guest_read : (t : Mark) → get_or ts i free_mark ≡ t → is_guest t ≡ (get_or v i bare_cell).guest
    guest_read t at_t = ap is_guest (sym at_t ∙ mark_at free_mark) ∙ sym (ap (λ (d : Cell N). d.guest)
        cell_at)

    pub taken_read : (t : Mark) → get_or ts i free_mark ≡ t → is_taken t ≡ is_some (kept_at v i)
    taken_read t at_t =
        ap is_taken (sym at_t ∙ mark_at free_mark) ∙ agrees_taken row stored
        ∙ sym (ap (λ (d : Cell N). is_some d.kept) cell_at)

    pub may_have_guest_read : (t : Mark) → get_or ts i free_mark ≡ t → (hash : ℕ)
        → has_guest (tag_of hash) t ≡ kept_may_be hash (guest_at v i)
    may_have_guest_read t at_t hash =
        ap (has_guest (tag_of hash)) (sym at_t ∙ mark_at free_mark) ∙ agrees_guest row stored hash
        ∙ sym (ap (λ (d : Cell N). kept_may_be hash (guest_of d)) cell_at)

    pub kept_read : (n : N) (r : Rest) → n ≡ get_or ns i n → r ≡ get_or rs i r → IsSome (kept_at v i)
        → kept_at v i ≡ Some (record { hash = r.hash; node = n })
    kept_read n r at_n at_r some =
        let k : Hashed N = record { hash = row.rest.hash; node = row.node } in
        rw (at_r ∙ rest_at r, at_n ∙ node_at n) (ap (λ (d : Cell N). d.kept) cell_at
        ∙ (elim (is_taken row.mark) as (λ b. IsSome (cond b (Some k) None) → cond b (Some k) None ≡ Some k) [
          | true ↦ λ _. refl
          | false ↦ λ no. absurd (false≢true no)
        ]) (subst (λ (d : Cell N). IsSome d.kept) cell_at some))

    -- a node of the group
    pub own_read : (n : N) → n ≡ get_or ns i n → IsSome (own_at v i)
        → IfSome (own_at v i) (λ k. k.node ≡ n)
    own_read n at_n some =
        let K : Type 0 = Hashed N in
        let k : K = record { hash = row.rest.hash; node = row.node } in
        let if_own : (b c : Bool) → IsSome (cond b None (cond c (Some k) None))
        → IfSome (cond b None (cond c (Some k) None)) (λ (j : K). j.node ≡ n)
        = λ b c. elim b as (λ b. IsSome (cond b None (cond c (Some k) None))
        → IfSome (cond b None (cond c (Some k) None)) (λ (j : K). j.node ≡ n)) [
          | true ↦ λ no. absurd (false≢true no)
          | false ↦ elim c as (λ c. IsSome (cond c (Some k) None)
              → IfSome (cond c (Some k) None) (λ (j : K). j.node ≡ n)) [
                | true ↦ λ _. sym (at_n ∙ node_at n)
                | false ↦ λ no. absurd (false≢true no)
              ]
        ] in
        subst (λ (d : Cell N). IfSome (own_of d) (λ (j : K). j.node ≡ n)) (sym cell_at)
        (if_own (is_guest row.mark) (is_taken row.mark) (subst (λ (d : Cell N). IsSome (own_of d)) cell_at
        some))

    -- its link
    pub next_read : (r : Rest) → r ≡ get_or rs i r → (next_at v i ≡ r.link) × (r.link ≤ END)
    next_read r at_r = rw (at_r ∙ rest_at r) (ap (λ (d : Cell N). d.next) cell_at, stored.small)

    -- a node was put into it or taken out of it, or it has another link
    abbrev own_mark : ℕ → Bool → Mark
    own_mark hash guest = record { tag = tag_of hash; own = true; guest = guest }

    abbrev guest_mark : ℕ → Mark
    guest_mark hash = record { tag = tag_of hash; own = false; guest = true }

    pub put_in : (k : Hashed N) (guest : Bool) (r : Rest) → r ≡ get_or rs i r
        → AreCells (set ts i (own_mark k.hash guest)) (set ns i k.node)
        (set rs i (record r { hash = k.hash })) (with_kept v i k)
    put_in k guest r at_r =
        let next = next_read r at_r in
        written i
        (record { mark = own_mark k.hash guest; node = k.node; rest = record r { hash = k.hash } }) _ _ _ _
        (record { tagged = λ _. refl; small = next.1 }) refl refl refl (rw next.0 refl)

    pub guest_put_in : (k : Hashed N) (next : ℕ) → next ≤ END
        → AreCells (set ts i (guest_mark k.hash)) (set ns i k.node)
        (set rs i (record { hash = k.hash; link = next })) (with_guest v i k next)
    guest_put_in k next small =
        written i
        (record { mark = guest_mark k.hash; node = k.node; rest = record { hash = k.hash; link = next } })
        _ _ _ _ (record { tagged = λ _. refl; small = small }) refl refl refl refl

    pub freed : (tag : ℕ) → let m : Mark = record { tag = tag; own = false; guest = false } in
        AreCells (set ts i m) ns rs (without_kept v i)
    freed tag =
        written i (record row { mark = record { tag = tag; own = false; guest = false } }) _ _ _ _
        (record { tagged = λ e. absurd (false≢true e); small = stored.small }) refl
        node_stays rest_stays (ap (λ (d : Cell N). record d { kept = None; guest = false }) cell_at)

    pub linked_on : (to : ℕ) (r : Rest) → r ≡ get_or rs i r → to ≤ END
        → AreCells ts ns (set rs i (record r { link = to })) (with_next v i to)
    linked_on to r at_r small =
        written i (record row { rest = record row.rest { link = to } }) _ _ _ _
        (record { tagged = stored.tagged; small = small }) mark_stays node_stays
        (ap (λ (s : Rest). set rs i (record s { link = to })) (at_r ∙ rest_at r))
        (ap (λ (d : Cell N). record d { next = to }) cell_at)
