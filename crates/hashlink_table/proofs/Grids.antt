-- The records of all groups, from what is stored to what contracts see.
use Rattle.hashlink_table.proofs.Names
use Names.{◌≡◌, ◌≢◌, ℕ, zero, suc, ◌+◌, ◌-◌, ◌*◌, ◌/◌, ◌%◌, ◌<◌, ◌≤◌, inl, inr, List, [], ◌∷◌, ◌++◌}
use Names.{length, get_or}
use Names.{set, replicate, refl, sym, ap, ◌∙◌, arith, cases_eq, cases_lt, All, All-get_or, All-head}
use Names.{All-set}
use Names.{All-tail, chunk, get_or-set_same, get_or-set_other, get_or_append_left, get_or-append_right}
use Names.{get_or_default, get_or-chunk, get_or-map, length-append, length-chunk}
use Names.{length-set, length-map, map-set_same}
use Names.{Record, Cell, Grid, Mark, Rest, AreSlots, cells_in, empty_record, free_mark, grid_in}
use Names.{heads_in}
use Names.{marks_in, no_guests}
use Names.{cleared}
use Names.{Head, Hashed, END, Bool, true, false, bare_grid, map-set, tag_of, with_kept, with_guest}
use Rattle.hashlink_table.proofs.Storing.{AreCells, bare, bare_cells, emptied_all, sizes, put_in}
use Rattle.hashlink_table.proofs.Storing.{guest_put_in}
use Rattle.std.proofs.lemmas.{List.{same_lists, replicate-append-replicate}, List.Elements.{All-replicate}}

abbrev pub AreEven : List Record → Type 0
AreEven bs = All (λ b. length b.marks ≡ 16) bs

pub length-marks : (bs : List Record) → AreEven bs → length (marks_in bs) ≡ 16 * length bs
length-marks [] even = refl
length-marks (b ∷ bs) even =
    let rest = length-marks bs (All-tail (λ (b : Record). length b.marks ≡ 16) b bs even) in
    let here = All-head (λ (b : Record). length b.marks ≡ 16) b bs even in
    omega (arith, length-append b.marks (marks_in bs), rest, here)

-- the mark of the slot at i
pub mark_in : (bs : List Record) (i : ℕ) (e : Record) → AreEven bs → i < 16 * length bs
    → get_or (marks_in bs) i free_mark ≡ get_or (get_or bs (i / 16) e).marks (i % 16) free_mark
mark_in [] i e even low = absurd (omega arith)
mark_in (b ∷ bs) i e even low =
    let here = All-head (λ (b : Record). length b.marks ≡ 16) b bs even in
    elim (cases_lt i 16) as (λ _. get_or (b.marks ++ marks_in bs) i free_mark
    ≡ get_or (get_or (b ∷ bs) (i / 16) e).marks (i % 16) free_mark) [
      | inl first ↦
          let group : i / 16 ≡ 0 = omega (arith, first) in let lane : i % 16 ≡ i = omega (arith, first) in
          rw (group, lane) (get_or_append_left b.marks (marks_in bs) free_mark i (omega (arith, first, here)))
      | inr later ↦
          let j = i - 16 in
          let group : i / 16 ≡ suc (j / 16) = omega (arith, later) in
          let lane : i % 16 ≡ j % 16 = omega (arith, later) in
          rw (group, lane) (get_or-append_right b.marks (marks_in bs) 16 i free_mark here later
          ∙ mark_in bs j e (All-tail (λ (b : Record). length b.marks ≡ 16) b bs even)
          (omega (arith, low, later)))
    ]

module _ (bs : List Record) (even : AreEven bs) where
  -- the marks of a group
  pub group_marks : (g : ℕ) (e : Record) → g < length bs
      → (get_or bs g e).marks ≡ chunk (16 * g) 16 (marks_in bs)
  group_marks g e low =
      let long = length-marks bs even in
      let here = All-get_or (λ (b : Record). length b.marks ≡ 16) bs g e low even in
      let room : 16 * g + 16 ≤ length (marks_in bs) = omega (arith, long, low) in
      let cut = length-chunk (16 * g) 16 (marks_in bs) room in
      same_lists (get_or bs g e).marks (chunk (16 * g) 16 (marks_in bs)) (here ∙ sym cut) (λ j d lane.
      let small : j < 16 = omega (arith, lane, here) in
      let group : (16 * g + j) / 16 ≡ g = omega (arith, small) in
      let at : (16 * g + j) % 16 ≡ j = omega (arith, small) in
      get_or_default (get_or bs g e).marks j d free_mark lane
      ∙ sym (rw (group, at) at (mark_in bs (16 * g + j) e even (omega (arith, low, small))))
      ∙ sym (get_or-chunk (16 * g) 16 (marks_in bs) j free_mark small)
      ∙ sym (get_or_default (chunk (16 * g) 16 (marks_in bs)) j d free_mark (omega (arith, small, cut))))

  -- a mark is set
  module _ (i : ℕ) (m : Mark) (e b : Record) (low : i < 16 * length bs)
      (is : b.marks ≡ set (get_or bs (i / 16) e).marks (i % 16) m) where
    group : i / 16 < length bs
    group = omega (arith, low)

    pub even-set : AreEven (set bs (i / 16) b)
    even-set =
        All-set (λ (b : Record). length b.marks ≡ 16) bs (i / 16) b
        (ap length is ∙ length-set (get_or bs (i / 16) e).marks (i % 16) m
        ∙ All-get_or (λ (b : Record). length b.marks ≡ 16) bs (i / 16) e group even) even

    pub marks-set : marks_in (set bs (i / 16) b) ≡ set (marks_in bs) i m
    marks-set =
        let long = length-marks bs even in
        let now = length-marks (set bs (i / 16) b) even-set in
        let same = length-set bs (i / 16) b in let all = length-set (marks_in bs) i m in
        let here = All-get_or (λ (b : Record). length b.marks ≡ 16) bs (i / 16) e group even in
        same_lists (marks_in (set bs (i / 16) b)) (set (marks_in bs) i m) (omega (
          arith,
          long,
          now,
          same,
          all,
        ))
        (λ k d less.
        let within : k < 16 * length bs = omega (arith, less, now, same) in
        get_or_default (marks_in (set bs (i / 16) b)) k d free_mark less
        ∙ mark_in (set bs (i / 16) b) k e even-set (omega (arith, within, same))
        ∙ (elim (cases_eq (k / 16) (i / 16)) as
        (λ _. get_or (get_or (set bs (i / 16) b) (k / 16) e).marks (k % 16) free_mark
        ≡ get_or (set (marks_in bs) i m) k free_mark) [
          | inl q ↦
              let changed : (get_or (set bs (i / 16) b) (k / 16) e).marks
              ≡ set (get_or bs (i / 16) e).marks (i % 16) m
              = ap (λ n. (get_or (set bs (i / 16) b) n e).marks) q
              ∙ ap (λ (c : Record). c.marks) (get_or-set_same bs (i / 16) b e group) ∙ is in
              rw changed (elim (cases_eq (k % 16) (i % 16)) as
              (λ _. get_or (set (get_or bs (i / 16) e).marks (i % 16) m) (k % 16) free_mark
              ≡ get_or (set (marks_in bs) i m) k free_mark) [
                | inl r ↦
                    let at : k ≡ i = omega (arith, q, r) in
                    rw (r, at) (get_or-set_same (get_or bs (i / 16) e).marks (i % 16) m free_mark
                    (omega (arith, here)) ∙ sym (get_or-set_same (marks_in bs) i m free_mark
                    (omega (arith, low, long))))
                | inr ne ↦
                    let apart : k ≢ i = λ at. ne (ap (λ n. n % 16) at) in
                    get_or-set_other (get_or bs (i / 16) e).marks (i % 16) (k % 16) m free_mark ne
                    ∙ ap (λ n. get_or (get_or bs n e).marks (k % 16) free_mark) (sym q)
                    ∙ sym (mark_in bs k e even within)
                    ∙ sym (get_or-set_other (marks_in bs) i k m free_mark apart)
              ])
          | inr ne ↦
              let apart : k ≢ i = λ at. ne (ap (λ n. n / 16) at) in
              ap (λ (c : Record). get_or c.marks (k % 16) free_mark)
              (get_or-set_other bs (i / 16) (k / 16) b e ne) ∙ sym (mark_in bs k e even within)
              ∙ sym (get_or-set_other (marks_in bs) i k m free_mark apart)
        ])
        ∙ sym (get_or_default (set (marks_in bs) i m) k d free_mark (omega (arith, within, long, all))))

-- a write that keeps a group's marks
pub marks-same : (bs : List Record) (g : ℕ) (e b : Record) → b.marks ≡ (get_or bs g e).marks
    → marks_in (set bs g b) ≡ marks_in bs
marks-same [] g e b is = refl
marks-same (x ∷ xs) zero e b is = ap (λ ms. ms ++ marks_in xs) is
marks-same (x ∷ xs) (suc g) e b is = ap (λ ms. x.marks ++ ms) (marks-same xs g e b is)

pub even-same : (bs : List Record) (g : ℕ) (e b : Record) → AreEven bs → g < length bs → e ≡ get_or bs g e
    → b.marks ≡ e.marks
    → AreEven (set bs g b)
even-same bs g e b even low at marks =
    All-set (λ (c : Record). length c.marks ≡ 16) bs g b
    (ap length (marks ∙ ap (λ (c : Record). c.marks) at)
    ∙ All-get_or (λ (c : Record). length c.marks ≡ 16) bs g e low even) even

-- n groups without nodes
empty_even : (n : ℕ) → AreEven (replicate n empty_record)
empty_even n = All-replicate (λ (b : Record). length b.marks ≡ 16) n empty_record refl

pub marks-empty : (n : ℕ) → marks_in (replicate n empty_record) ≡ replicate (16 * n) free_mark
marks-empty zero = refl
marks-empty (suc n) =
    let more : 16 + 16 * n ≡ 16 * suc n = omega arith in
    ap (λ ms. replicate 16 free_mark ++ ms) (marks-empty n)
    ∙ replicate-append-replicate 16 (16 * n) free_mark ∙ ap (λ k. replicate k free_mark) more

pub heads-empty : (n : ℕ) → heads_in (replicate n empty_record) ≡ replicate n no_guests
heads-empty zero = refl
heads-empty (suc n) = ap (λ hs. no_guests ∷ hs) (heads-empty n)

-- what is stored, and what contracts see of it
abbrev pub Stores : {N : Type 0} → List Record → List N → List Rest → Grid N → Type 0
Stores bs ns rs o = AreSlots bs ns rs × (grid_in bs ns rs ≡ o)

module _ {N : Type 0} where
  grid : {cs ds : List (Cell N)} {gs hs : List Head} → cs ≡ ds → gs ≡ hs
      → let c : Grid N = record { cells = cs; heads = gs } in c ≡ record { cells = ds; heads = hs }
  grid c h = λ i. record { cells = c i; heads = h i }

  stores : {bs : List Record} {ns : List N} {rs : List Rest} {v : List (Cell N)} {hs : List Head}
      → AreEven bs → AreCells (marks_in bs) ns rs v → heads_in bs ≡ hs
      → Stores bs ns rs (record { cells = v; heads = hs })
  stores even (tagged, seen) heads = (record { tagged = tagged; even = even }, grid seen heads)

  -- n slots without nodes
  pub stores-bare : (ns : List N) (n b : ℕ) → length ns ≡ n → b ≡ n → n % 16 ≡ 0
      → Stores (replicate (n / 16) empty_record) ns (replicate b bare) (bare_grid n)
  stores-bare ns n b long rests whole =
      let all : 16 * (n / 16) ≡ n = omega (arith, whole) in
      stores (empty_even (n / 16)) (rw (marks-empty (n / 16)) (bare_cells ns (16 * (n / 16)) b n long all
      rests))
      (heads-empty (n / 16))

module _ {N : Type 0} {bs : List Record} {ns : List N} {rs : List Rest} {o : Grid N}
    (h : AreSlots bs ns rs) (view : grid_in bs ns rs ≡ o) where
  pub cells_are : cells_in (marks_in bs) ns rs ≡ o.cells
  cells_are = ap (λ (c : Grid N). c.cells) view

  pub heads_are : heads_in bs ≡ o.heads
  heads_are = ap (λ (c : Grid N). c.heads) view

  -- each list by the number of slots
  pub record AreLong : Type 0 where
    pub nodes : length ns ≡ length o.cells
    pub rests : length rs ≡ length o.cells
    pub groups : 16 * length bs ≡ length o.cells
    pub heads : length o.heads ≡ length bs

  pub slots_long : AreLong
  slots_long =
      let s = sizes h.tagged cells_are in
      record {
        nodes = s.1;
        rests = s.2;
        groups = sym (length-marks bs h.even) ∙ s.0;
        heads = ap length (sym heads_are) ∙ length-map bs (λ (b : Record). b.head);
      }

  -- the index of a slot is one of each list, and that of its group one of the groups
  pub in-lists : (i : ℕ) → i < length o.cells → (i / 16 < length bs) × (i < length ns) × (i < length rs)
  in-lists i low = let long = slots_long in (
    omega (arith, low, long.groups),
    omega (arith, low, long.nodes),
    omega (arith, low, long.rests),
  )

  -- no slot has a node any more
  pub stores-cleared : Stores (replicate (length o.cells / 16) empty_record) ns rs (cleared o)
  stores-cleared =
      let groups = length o.cells / 16 in
      let all : 16 * groups ≡ length o.cells = omega (arith, slots_long.groups) in
      stores (empty_even groups)
      (rw (marks-empty groups) (emptied_all h.tagged cells_are (16 * groups) all)) (heads-empty groups)

  -- a mark is set
  pub stores-mark : (i : ℕ) (m : Mark) (e b : Record) {ms : List N} {ds : List Rest} {v : List (Cell N)}
      → i < length o.cells → e ≡ get_or bs (i / 16) e → b ≡ record e { marks = set e.marks (i % 16) m }
      → AreCells (set (marks_in bs) i m) ms ds v
      → Stores (set bs (i / 16) b) ms ds (record o { cells = v })
  stores-mark i m e b low at written stored =
      let long = slots_long in
      let is = written
      ∙ ap (λ (c : Record). let d : Record = record c { marks = set c.marks (i % 16) m } in d) at in
      let within : i < 16 * length bs = omega (arith, low, long.groups) in
      let marks = ap (λ (c : Record). c.marks) is in
      stores (even-set bs h.even i m e b within marks) (rw (marks-set bs h.even i m e b within marks) stored)
      (map-set_same (λ (c : Record). c.head) bs (i / 16) b e (ap (λ (c : Record). c.head) is) ∙ heads_are)

  -- a node is put into a slot of its group, or as a guest into any slot
  module _ (i : ℕ) (k : Hashed N) (tag : ℕ) (e b : Record) (low : i < length o.cells)
      (at : e ≡ get_or bs (i / 16) e) (tagged : tag ≡ tag_of k.hash) where
    marked : (own guest : Bool) → Mark
    marked own guest = record { tag = tag_of k.hash; own = own; guest = guest }

    is_marked : (own guest : Bool)
        → let m : Mark = record { tag = tag; own = own; guest = guest } in
        b ≡ record e { marks = set e.marks (i % 16) m }
        → b ≡ record e { marks = set e.marks (i % 16) (marked own guest) }
    unfolding marked
    is_marked own guest written =
        written ∙ ap (λ t. let m : Mark = record { tag = t; own = own; guest = guest } in
        let d : Record = record e { marks = set e.marks (i % 16) m } in d) tagged

    pub stores-put : (r : Rest)
        → (let m : Mark = record (get_or e.marks (i % 16) free_mark) { tag = tag; own = true } in
        b ≡ record e { marks = set e.marks (i % 16) m })
        → r ≡ get_or rs i r
        → Stores (set bs (i / 16) b) (set ns i k.node) (set rs i (record r { hash = k.hash }))
        (record o { cells = with_kept o.cells i k })
    unfolding marked
    stores-put r written read =
        let guest = (get_or e.marks (i % 16) free_mark).guest in
        stores-mark i _ e b low at (is_marked true guest written)
        (put_in h.tagged cells_are i low k guest r read)

    pub stores-guest : (next : ℕ) → next ≤ END
        → (let m : Mark = record { tag = tag; own = false; guest = true } in
        b ≡ record e { marks = set e.marks (i % 16) m })
        → Stores (set bs (i / 16) b) (set ns i k.node) (set rs i (record { hash = k.hash; link = next }))
        (record o { cells = with_guest o.cells i k next })
    unfolding marked
    stores-guest next small written =
        stores-mark i _ e b low at (is_marked false true written)
        (guest_put_in h.tagged cells_are i low k next small)

  -- a chain is set
  pub stores-head : (g : ℕ) (x : Head) (e b : Record) → g < length o.heads → e ≡ get_or bs g e
      → b ≡ record e { head = x }
      → Stores (set bs g b) ns rs (record o { heads = set o.heads g x })
  stores-head g x e b low at written =
      let long = slots_long in
      let is = written ∙ ap (λ (c : Record). let d : Record = record c { head = x } in d) at in
      let marks = ap (λ (c : Record). c.marks) is in
      let same = marks-same bs g e b marks in
      stores
      (even-same bs g e b h.even (omega (arith, low, long.heads)) at (ap (λ (c : Record). c.marks) written))
      (rw same (h.tagged, cells_are))
      (map-set (λ (c : Record). c.head) bs g b
      ∙ (λ i. set (heads_are i) g (ap (λ (c : Record). c.head) is i)))

  -- only nodes and the rests of slots are written
  pub stores-rest : {ms : List N} {ds : List Rest} {v : List (Cell N)} → AreCells (marks_in bs) ms ds v
      → Stores bs ms ds (record o { cells = v })
  stores-rest stored = stores h.even stored heads_are

  -- the mark of a slot, as it is read
  pub mark_is : (i : ℕ) (e : Record) (m : Mark) → i < length o.cells → e ≡ get_or bs (i / 16) e
      → m ≡ get_or e.marks (i % 16) free_mark
      → get_or (marks_in bs) i free_mark ≡ m
  mark_is i e m low at is =
      let long = slots_long in
      mark_in bs i e h.even (omega (arith, low, long.groups))
      ∙ ap (λ (c : Record). get_or c.marks (i % 16) free_mark) (sym at) ∙ sym is

  -- the marks of the group from `base` on
  pub marks_from : (base : ℕ) (e : Record) → base + 16 ≤ length o.cells → base % 16 ≡ 0
      → e ≡ get_or bs (base / 16) e
      → e.marks ≡ chunk base 16 (marks_in bs)
  marks_from base e room whole read =
      let long = slots_long in
      let first : 16 * (base / 16) ≡ base = omega (arith, whole) in
      ap (λ (c : Record). c.marks) read
      ∙ group_marks bs h.even (base / 16) e (omega (arith, room, long.groups))
      ∙ ap (λ n. chunk n 16 (marks_in bs)) first

  -- the chain of a group, as it is read
  pub head_is : (g : ℕ) (e : Record) → g < length o.heads → e ≡ get_or bs g e → e.head ≡ get_or o.heads g
      no_guests
  head_is g e low read =
      let long = slots_long in
      ap (λ (c : Record). c.head) read
      ∙ sym (get_or-map (λ (c : Record). c.head) bs g e no_guests (omega (arith, low, long.heads)))
      ∙ ap (λ hs. get_or hs g no_guests) heads_are
