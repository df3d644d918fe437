-- The nodes stay where a search looks for them: a node is put into a slot or taken out of one, as a guest or
-- not.
use Rattle.hashlink_table.proofs.Names
use Names.{◌≡◌, ◌≢◌, ℕ, ◌%◌, ◌/◌, ◌^◌, ◌<◌, ◌≤◌, inl, inr, List, length, get_or, set, IsSome}
use Names.{IfSome, Option}
use Names.{None, Some, false, refl, sym, ap, ◌∙◌, subst, arith, IsPermutation, cases_eq, length-map}
use Names.{length-set, get_or-set_same, get_or-set_other, same_Some, bit_at, Hashed, Cell, Head, END, kept_at}
use Names.{next_at, own_at, own_of, guest_at, guest_of, chain_at, chain_of, first_at, mask_at}
use Names.{nodes_in}
use Names.{with_node, AreGrouped, IsArranged, IsLinkedBut, SameNodes, SameMasks}
use Names.{no_guests}
use Names.{mask_bit_of, with_guest_in, true}
use Rattle.hashlink_table.proofs.Linking.{at-set, at-set_other, linked-same, linked-put, linked-freed}
use Rattle.hashlink_table.proofs.Linking.{none_guest}
use Rattle.hashlink_table.proofs.Linking.{guest-same, own-same}
use Rattle.hashlink_table.proofs.Linking.{same_length}
use Rattle.hashlink_table.proofs.{Nodes.{nodes_in-set, nodes_in-full}, Threads.begun}
use Rattle.std.specs.Prelude.{bit_or}
use Rattle.std.proofs.lemmas.Nat.Bits.{bit_at_or, bit_at-pow_same, bit_at-lt}

-- a fact of the node of a cell, if it has one
pub if_kept : {K : Type 0} (o : Option K) (P : K → Type 0) → ((k : K) → o ≡ Some k → P k) → IfSome o P
if_kept None P so = tt
if_kept (Some k) P so = so k refl

-- the group of a guest is among the groups
pub group_low : (hash m : ℕ) → 0 < m → m % 16 ≡ 0 → hash % m / 16 < m / 16
group_low hash m some whole = omega (arith, some, whole)

-- a mask with one more bit has that bit, and those that it had
mask_has : (mask bit : ℕ) → bit_at (bit_or mask (2 ^ bit)) bit ≡ 1
mask_has mask bit =
    omega (arith, bit_at_or mask (2 ^ bit) bit, bit_at-pow_same bit, bit_at-lt mask bit)

mask_keeps : (mask more bit : ℕ) → bit_at mask bit ≡ 1 → bit_at (bit_or mask more) bit ≡ 1
mask_keeps mask more bit has = omega (arith, bit_at_or mask more bit, has, bit_at-lt more bit)

-- the mask of a chain after a write
mask_at-set_same : (heads : List Head) (b : ℕ) (h : Head) → b < length heads
    → mask_at (set heads b h) b ≡ h.mask
mask_at-set_same heads b h low = ap (λ (g : Head). g.mask) (get_or-set_same heads b h no_guests low)

mask_at-set_other : (heads : List Head) (b c : ℕ) (h : Head) → c ≢ b
    → mask_at (set heads b h) c ≡ mask_at heads c
mask_at-set_other heads b c h ne = ap (λ (g : Head). g.mask) (get_or-set_other heads b c h no_guests ne)

module _ {N : Type 0} where
  -- the nodes after a write: the new one is added, and the old one is gone
  pub nodes-written : (f : List (Cell N)) (i : ℕ) (d : Cell N) (o p : Option (Hashed N)) → i < length f
      → d.kept ≡ o → kept_at f i ≡ p
      → IsPermutation (with_node o (nodes_in f)) (with_node p (nodes_in (set f i d)))
  nodes-written f i d o p low new old =
      subst (λ q. IsPermutation (with_node q (nodes_in f)) (with_node p (nodes_in (set f i d)))) new
      (subst (λ q. IsPermutation (with_node d.kept (nodes_in f)) (with_node q (nodes_in (set f i d)))) old
      (nodes_in-set f i d low))

  -- if there are fewer nodes than slots, not each slot has a node
  pub not_full : (f : List (Cell N)) → length (nodes_in f) < length f
      → ((i : ℕ) → i < length f → IsSome (kept_at f i)) → ⊥
  not_full f fewer all = omega (arith, fewer, nodes_in-full f all)

  module _ {f : List (Cell N)} {heads : List Head} (a : IsArranged f heads) (i : ℕ) (d : Cell N)
      (low : i < length f) where
    -- a node that is no guest after the write is in its group if it was before
    place-set : ((k : Hashed N) → own_of d ≡ Some k → AreGrouped (k.hash % length f) i)
        → (at : ℕ) (k : Hashed N) → own_at (set f i d) at ≡ Some k
        → AreGrouped (k.hash % length (set f i d)) at
    place-set grouped at k is =
        rw (length-set f i d) (elim (cases_eq at i) as (λ _. AreGrouped (k.hash % length f) at) [
          | inl e ↦ subst (AreGrouped (k.hash % length f)) (sym e)
              (grouped k (sym (at-set f i d (λ (c : Cell N). own_of c) low)
              ∙ ap (own_at (set f i d)) (sym e) ∙ is))
          | inr ne ↦ a.in_place at k (sym (at-set_other f i d (λ (c : Cell N). own_of c) at ne) ∙ is)
        ])

    -- a write to a cell that has no guest before and after
    pub arranged-set : d.next ≡ next_at f i → guest_of d ≡ None → guest_at f i ≡ None
        → ((k : Hashed N) → own_of d ≡ Some k → AreGrouped (k.hash % length f) i)
        → IsArranged (set f i d) heads
    arranged-set next none was grouped = record {
      linked = linked-same f heads i d low (none ∙ sym was) next a.linked;
      in_place = place-set grouped;
      covered = λ at k is. rw (length-set f i d) (elim (cases_eq at i)
          as (λ _. bit_at (mask_at heads (k.hash % length f / 16)) (mask_bit_of k.hash) ≡ 1) [
            | inl e ↦ absurd (cc (sym none ∙ sym (at-set f i d (λ (c : Cell N). guest_of c) low)
                ∙ ap (guest_at (set f i d)) (sym e) ∙ is))
            | inr ne ↦ a.covered at k (sym (at-set_other f i d (λ (c : Cell N). guest_of c) at ne) ∙ is)
          ]);
      paired = a.paired ∙ ap (λ n. n / 16) (sym (length-set f i d));
    }

  -- a guest is put into a free slot
  module _ {f : List (Cell N)} {heads : List Head} (a : IsArranged f heads) (i b : ℕ) (d : Cell N) (h : Head)
      (k : Hashed N) (low : i < length f) (small : length f ≤ END) (free : kept_at f i ≡ None)
      (group : b < length heads) (home : b ≡ k.hash % length f / 16)
      (is : d ≡ record { kept = Some k; guest = true; next = first_at heads b })
      (head : h ≡ with_guest_in (get_or heads b no_guests) k.hash i) where
    -- the mask of a chain still has a bit that it had
    mask-set : (c bit : ℕ) → bit_at (mask_at heads c) bit ≡ 1 → bit_at (mask_at (set heads b h) c) bit ≡ 1
    mask-set c bit has = elim (cases_eq c b) as (λ _. bit_at (mask_at (set heads b h) c) bit ≡ 1) [
      | inl e ↦ rw (e, mask_at-set_same heads b h group, head)
          (mask_keeps (mask_at heads b) (2 ^ mask_bit_of k.hash) bit (rw e at has))
      | inr ne ↦ rw (mask_at-set_other heads b c h ne) has
    ]

    pub arranged-lodged : IsArranged (set f i d) (set heads b h)
    arranged-lodged =
        let guest : guest_of d ≡ Some k = ap (λ (c : Cell N). guest_of c) is in
        record {
          linked =
              linked-put f heads b i d h group (omega (arith, a.paired)) low small (none_guest f i free)
              (ap (λ (c : Cell N). c.next) is)
              (ap (chain_of (length f)) guest ∙ sym home) (ap (λ (g : Head). g.first) head) a.linked;
          in_place = place-set a i d low (λ j own. absurd (cc (sym (ap (λ (c : Cell N). own_of c) is) ∙
              own)));
          covered = λ at j there. rw (length-set f i d) (elim (cases_eq at i)
              as (λ _. bit_at (mask_at (set heads b h) (j.hash % length f / 16)) (mask_bit_of j.hash) ≡ 1) [
                | inl e ↦
                    let same : k ≡ j
                    = same_Some k j (sym guest ∙ sym (at-set f i d (λ (c : Cell N). guest_of c) low)
                    ∙ ap (guest_at (set f i d)) (sym e) ∙ there) in
                    rw (← same, ← home, mask_at-set_same heads b h group, head)
                    (mask_has (mask_at heads b) (mask_bit_of k.hash))
                | inr ne ↦ mask-set _ _
                    (a.covered at j (sym (at-set_other f i d (λ (c : Cell N). guest_of c) at ne) ∙ there))
              ]);
          paired = length-set heads b h ∙ a.paired ∙ ap (λ n. n / 16) (sym (length-set f i d));
        }

  -- a guest that was taken out of its chain is taken out of its slot
  module _ {f : List (Cell N)} {heads : List Head} (a : IsArranged f heads) (g : List (Cell N))
      (more : List Head) (i : ℕ) (d : Cell N) (whole : length f % 16 ≡ 0) (low : i < length f)
      (same : SameNodes f g) (masks : SameMasks heads more) (cut : IsLinkedBut g more i)
      (next : d.next ≡ next_at g i) (none : d.kept ≡ None) (own : d.guest ≡ false) where
    long : length g ≡ length f
    long = same_length f g same

    pub arranged-freed : IsArranged (set g i d) more
    arranged-freed =
        let here : i < length g = omega (arith, low, long) in
        let no_guest : guest_of d ≡ None = rw own refl in
        let no_own : own_of d ≡ None = rw (own, none) refl in
        let linked = linked-freed g more i d here next no_guest cut in
        record {
          linked = linked;
          in_place = λ at k is. rw (length-set g i d, long)
              (elim (cases_eq at i) as (λ _. AreGrouped (k.hash % length f) at) [
                | inl e ↦ absurd (cc (sym no_own ∙ sym (at-set g i d (λ (c : Cell N). own_of c) here)
                    ∙ ap (own_at (set g i d)) (sym e) ∙ is))
                | inr ne ↦ a.in_place at k (sym (own-same f g same at)
                    ∙ sym (at-set_other g i d (λ (c : Cell N). own_of c) at ne) ∙ is)
              ]);
          covered = λ at k is.
              let n = length-set g i d in
              let was : at ≢ i → guest_at f at ≡ Some k
              = λ ne. sym (guest-same f g same at)
              ∙ sym (at-set_other g i d (λ (c : Cell N). guest_of c) at ne) ∙ is in
              let b = k.hash % length f / 16 in
              rw (n, long) (elim (cases_eq at i) as (λ _. bit_at (mask_at more b) (mask_bit_of k.hash) ≡ 1) [
                | inl e ↦ absurd (cc (sym no_guest ∙ sym (at-set g i d (λ (c : Cell N). guest_of c) here)
                    ∙ ap (guest_at (set g i d)) (sym e) ∙ is))
                | inr ne ↦
                    let group : b < length more
                    = omega (arith, masks.0, a.paired, group_low k.hash (length f) (omega (arith, low)) whole)
                    in
                    let chain = linked b (omega (arith, group, length-map more (λ (h : Head). h.first))) in
                    let on : chain_at (length (set g i d)) (set g i d) at ≡ b
                    = ap (chain_of (length (set g i d))) is ∙ ap (λ m. k.hash % m / 16) (n ∙ long) in
                    rw (masks.1 b (begun chain at on)) (a.covered at k (was ne))
              ]);
          paired = masks.0 ∙ a.paired ∙ ap (λ m. m / 16) (sym (length-set g i d ∙ long));
        }
