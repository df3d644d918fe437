-- The chains of a table after a write to the slots, after an insert of a guest and after a removal.
use Rattle.hashlink_table.proofs.Names
use Names.{◌≡◌, ◌≢◌, ℕ, ◌<◌, ◌≤◌, ◌%◌, ◌/◌, inl, inr, List, IsSome, Option, Some, None, length, get_or}
use Names.{set, refl, sym}
use Names.{ap, ◌∙◌, subst, arith, cases_eq, cases_lt, false≢true, false, true, Bool, cond, get_or-set_same}
use Names.{get_or-set_other}
use Names.{get_or_past, get_or-map, length-map, length-set, map-set, Cell, Head, Hashed, kept_at, next_at}
use Names.{own_at, own_of, guest_at, guest_of, chain_of, chain_at, bare_cell, pow_pos, IsPowerOfTwo, END}
use Names.{links_of}
use Names.{first_at, IsThreaded, IsLinked, IsLinkedBut, SameNodes, stored_in}
use Rattle.hashlink_table.proofs.Threads.{take_first, take_next, put_first}
use Rattle.std.proofs.Math.ListN as by_index

-- a power of two is above 0
pub positive_by_power : (n : ℕ) → IsPowerOfTwo n → 0 < n
positive_by_power n p = omega (arith, p.1, pow_pos p.0)

-- chains stay if the links and the chain of each cell do
threaded-same : (starts : List ℕ) {next chain : ℕ → ℕ} (later now : ℕ → ℕ) → ((j : ℕ) → next j ≡ later j)
    → ((j : ℕ) → chain j ≡ now j) → IsThreaded starts next chain
    → IsThreaded starts later now
threaded-same starts {next} {chain} later now links same t =
    subst (λ (f : ℕ → ℕ). IsThreaded starts f now) (λ i j. links j i)
    (subst (λ (f : ℕ → ℕ). IsThreaded starts next f) (λ i j. same j i) t)

module _ {N : Type 0} where
  -- a cell without a node has no guest, and no node of its group
  pub none_guest : (cells : List (Cell N)) (i : ℕ) → kept_at cells i ≡ None → guest_at cells i ≡ None
  none_guest cells i none =
      elim (get_or cells i bare_cell).guest as (λ b. cond b (kept_at cells i) None ≡ None)
      [ true ↦ none | false ↦ refl ]

  pub no_guest : (cells : List (Cell N)) (i : ℕ) → (get_or cells i bare_cell).guest ≡ false
      → guest_at cells i ≡ None
  no_guest cells i flag = subst (λ b. cond b (kept_at cells i) None ≡ None) (sym flag) refl

  -- the node of a guest, and of a cell that has no guest
  pub guest_kept : (cells : List (Cell N)) (i : ℕ) (k : Hashed N) → guest_at cells i ≡ Some k
      → kept_at cells i ≡ Some k
  guest_kept cells i k is =
      elim (get_or cells i bare_cell).guest
      as (λ b. cond b (kept_at cells i) None ≡ Some k → kept_at cells i ≡ Some k)
      [ true ↦ λ e. e | false ↦ λ e. absurd (cc e) ] is

  pub own_kept : (cells : List (Cell N)) (i : ℕ) (k : Hashed N) → own_at cells i ≡ Some k
      → kept_at cells i ≡ Some k
  own_kept cells i k is =
      elim (get_or cells i bare_cell).guest
      as (λ b. cond b None (kept_at cells i) ≡ Some k → kept_at cells i ≡ Some k)
      [ true ↦ λ e. absurd (cc e) | false ↦ λ e. e ] is

  -- a cell after a write
  module _ (cells : List (Cell N)) (i : ℕ) (c : Cell N) {X : Type 0} (f : Cell N → X) where
    pub at-set : i < length cells → f (get_or (set cells i c) i bare_cell) ≡ f c
    at-set h = ap f (get_or-set_same cells i c bare_cell h)

    pub at-set_other : (j : ℕ) → j ≢ i → f (get_or (set cells i c) j bare_cell) ≡ f (get_or cells j bare_cell)
    at-set_other j ne = ap f (get_or-set_other cells i j c bare_cell ne)

    pub at-set_same : i < length cells → f c ≡ f (get_or cells i bare_cell)
        → (j : ℕ) → f (get_or cells j bare_cell) ≡ f (get_or (set cells i c) j bare_cell)
    at-set_same h same j = elim (cases_eq j i)
        as (λ _. f (get_or cells j bare_cell) ≡ f (get_or (set cells i c) j bare_cell)) [
          | inl e ↦ subst (λ n. f (get_or cells n bare_cell) ≡ f (get_or (set cells i c) n bare_cell)) (sym e)
              (sym same ∙ sym (at-set h))
          | inr ne ↦ sym (at-set_other j ne)
        ]

  -- only a cell of the list has a node, or is on a chain
  pub within_by_kept : (cells : List (Cell N)) (i : ℕ) → IsSome (kept_at cells i) → i < length cells
  within_by_kept cells i some = elim (cases_lt i (length cells)) as (λ _. i < length cells) [
    | inl h ↦ h
    | inr past ↦ absurd (false≢true
        (subst IsSome (ap (λ (c : Cell N). c.kept) (get_or_past cells i bare_cell past)) some))
  ]

  pub within_by_own : (cells : List (Cell N)) (i : ℕ) → IsSome (own_at cells i) → i < length cells
  within_by_own cells i some = elim (cases_lt i (length cells)) as (λ _. i < length cells) [
    | inl h ↦ h
    | inr past ↦ absurd (false≢true
        (subst IsSome (ap (λ (c : Cell N). own_of c) (get_or_past cells i bare_cell past)) some))
  ]

  pub within_kept : (cells : List (Cell N)) (i : ℕ) (k : Hashed N) → kept_at cells i ≡ Some k
      → i < length cells
  within_kept cells i k is = within_by_kept cells i (rw is refl)

  pub within_by_chain : (m : ℕ) (cells : List (Cell N)) (i b : ℕ) → chain_at m cells i ≡ b → b < m
      → i < length cells
  within_by_chain m cells i b on low = elim (cases_lt i (length cells)) as (λ _. i < length cells) [
    | inl h ↦ h
    | inr past ↦
        let none : chain_at m cells i ≡ m
        = ap (λ (c : Cell N). chain_of m (guest_of c)) (get_or_past cells i bare_cell past) in
        absurd (omega (arith, on, low, none))
  ]

  -- a cell of a chain has a guest of the chain's group
  of_chain : (m b : ℕ) (o : Option (Hashed N)) → chain_of m o ≡ b → b < m
      → (k : Hashed N) × (o ≡ Some k) × (k.hash % m / 16 ≡ b)
  of_chain m b None on low = absurd (omega arith)
  of_chain m b (Some k) on low = (k, refl, on)

  pub on_chain : (m : ℕ) (cells : List (Cell N)) (i b : ℕ) → chain_at m cells i ≡ b → b < m
      → (k : Hashed N) × (guest_at cells i ≡ Some k) × (k.hash % m / 16 ≡ b)
  on_chain m cells i b on low = of_chain m b (guest_at cells i) on low

-- the first links after a write of one
module _ (heads : List Head) (b : ℕ) (d : Head) where
  pub links-set : links_of (set heads b d) ≡ set (links_of heads) b d.first
  links-set = map-set (λ (h : Head). h.first) heads b d

  length-links : length (links_of heads) ≡ length heads
  length-links = length-map heads (λ (h : Head). h.first)

-- the first link of a chain, as it is read
pub first_read : (heads : List Head) (b : ℕ) (d : Head) → b < length heads
    → (get_or heads b d).first ≡ first_at heads b
first_read heads b d low = sym (get_or-map (λ (h : Head). h.first) heads b d END low)

module _ {N : Type 0} (slots : List (Cell N)) (heads : List Head) where
  -- a write that changes neither link nor guest
  pub linked-same : (i : ℕ) (c : Cell N) → i < length slots → guest_of c ≡ guest_at slots i
      → c.next ≡ next_at slots i → IsLinked slots heads
      → IsLinked (set slots i c) heads
  linked-same i c low same next t =
      rw (length-set slots i c)
      (threaded-same (links_of heads) _ _ (at-set_same slots i c (λ (d : Cell N). d.next) low next)
      (at-set_same slots i c (λ (d : Cell N). chain_of (length slots) (guest_of d)) low
      (ap (chain_of (length slots)) same)) t)

  -- a guest is put into a free cell, as the first of its chain
  pub linked-put : (b i : ℕ) (c : Cell N) (d : Head) → b < length heads → length heads ≤ length slots
      → i < length slots → length slots ≤ END → guest_at slots i ≡ None → c.next ≡ first_at heads b
      → chain_of (length slots) (guest_of c) ≡ b → d.first ≡ i → IsLinked slots heads
      → IsLinked (set slots i c) (set heads b d)
  linked-put b i c d low few within small free leads on first t =
      let m = length slots in let n = length-links heads b d in
      let chain : Cell N → ℕ = λ e. chain_of m (guest_of e) in
      rw (links-set heads b d, first, length-set slots i c)
      (put_first (links_of heads) (next_at (set slots i c)) (chain_at m (set slots i c)) b i t
      (omega (arith, low, n)) (omega (arith, within, small))
      (omega (arith, ap (chain_of m) free, few, n))
      (at-set slots i c (λ (e : Cell N). e.next) within ∙ leads)
      (at-set_other slots i c (λ (e : Cell N). e.next))
      (at-set slots i c chain within ∙ on) (at-set_other slots i c chain))

  -- the first guest of a chain is taken out
  pub unlinked_first : (b i : ℕ) (d : Head) → b < length heads → length heads ≤ length slots
      → first_at heads b ≡ i → d.first ≡ next_at slots i → chain_at (length slots) slots i ≡ b
      → IsLinked slots heads
      → IsLinkedBut slots (set heads b d) i
  unlinked_first b i d low few first to on t now off same =
      let n = length-links heads b d in
      rw (links-set heads b d, to)
      (take_first (links_of heads) now b i t (omega (arith, low, n)) first on (omega (arith, off, few, n))
      same)

  -- the guest after p is taken out
  pub unlinked_next : (p i : ℕ) (c : Cell N) → length heads ≤ length slots → p < length slots
      → next_at slots p ≡ i → c.next ≡ next_at slots i → guest_of c ≡ guest_at slots p
      → chain_at (length slots) slots i ≡ chain_at (length slots) slots p → IsLinked slots heads
      → IsLinkedBut (set slots p c) heads i
  unlinked_next p i c few within leads cut alike on t now off same =
      let m = length slots in let n = length-links heads 0 (record { first = 0; mask = 0 }) in
      let long = length-set slots p c in
      take_next (links_of heads) (next_at (set slots p c)) now p i t leads
      (at-set slots p c (λ (e : Cell N). e.next) within ∙ cut) (at-set_other slots p c (λ (e : Cell N).
      e.next))
      on (omega (arith, off, few, n, long))
      (λ j apart. same j apart ∙ ap (λ k. chain_at k (set slots p c) j) long
      ∙ sym (at-set_same slots p c (λ (e : Cell N). chain_of m (guest_of e)) within (ap (chain_of m) alike)
      j))

  -- a guest that is on no chain is taken out of its cell
  pub linked-freed : (i : ℕ) (c : Cell N) → i < length slots → c.next ≡ next_at slots i → guest_of c ≡ None
      → IsLinkedBut slots heads i
      → IsLinked (set slots i c) heads
  linked-freed i c within next none t =
      let m = length slots in
      let chain : Cell N → ℕ = λ e. chain_of m (guest_of e) in
      rw (length-set slots i c)
      (threaded-same (links_of heads) _ _ (at-set_same slots i c (λ (e : Cell N). e.next) within next)
      (λ j. refl)
      (t (chain_at m (set slots i c))
      (omega (arith, at-set slots i c chain within ∙ ap (chain_of m) none))
      (at-set_other slots i c chain)))

-- if all cells keep what they store, each has its old node
module _ {N : Type 0} (cells later : List (Cell N)) (same : SameNodes cells later) where
  pub stored-same : (i : ℕ)
      → stored_in (get_or later i bare_cell) ≡ stored_in (get_or cells i bare_cell)
  stored-same i =
      sym (by_index.get_or-map stored_in later i bare_cell)
      ∙ ap (λ ss. get_or ss i (stored_in bare_cell)) same ∙ by_index.get_or-map stored_in cells i bare_cell

  pub kept-same : (i : ℕ) → kept_at later i ≡ kept_at cells i
  kept-same i = ap (λ (s : Option (Hashed N) × Bool). s.0) (stored-same i)

  pub guest-same : (i : ℕ) → guest_at later i ≡ guest_at cells i
  guest-same i = ap (λ (s : Option (Hashed N) × Bool). cond s.1 s.0 None) (stored-same i)

  pub own-same : (i : ℕ) → own_at later i ≡ own_at cells i
  own-same i = ap (λ (s : Option (Hashed N) × Bool). cond s.1 None s.0) (stored-same i)

  pub same_length : length later ≡ length cells
  same_length = sym (length-map later stored_in) ∙ ap length same ∙ length-map cells stored_in
