-- What is stored for a group, from bytes and bits to marks.
use Rattle.hashlink_table.proofs.Names.{◌≡◌, ◌≢◌, ℕ, zero, suc, ◌-◌, ◌^◌, ◌<◌, inl, inr, Bool, true}
use Rattle.hashlink_table.proofs.Names.{false, cond}
use Rattle.hashlink_table.proofs.Names.{eqb, List, map, length, get_or, set, max, refl, sym, ap, ◌∙◌, arith}
use Rattle.hashlink_table.proofs.Names.{cases_eq, set-get_or}
use Rattle.hashlink_table.proofs.Names.{get_or-set_same, get_or-set_other, get_or-map, length-map, length-set}
use Rattle.hashlink_table.proofs.Names.{bit_and, bit_at, mask_l}
use Rattle.hashlink_table.specs.Records.{has_own, is_free, is_taken, mark_of, free_mark}
use Rattle.hashlink_table.specs.declared.store.mark.Mark.{Mark}
use Rattle.std.specs.{List.range_with_len, Prelude.{bit_or, min}}
use Rattle.std.proofs.Common.{w16}
use Rattle.std.proofs.lemmas.List.FromFn.{fill_by_all, get_or-map-range_with_len, length-map-range_with_len}
use Rattle.std.proofs.lemmas.Nat.Bits.{bit_at_and, bit_at_or, bit_at_not, bit_at-lt, same_from_bits_below}
use Rattle.std.proofs.lemmas.Simd.{bit_mask_l, mask_l-lt}
use lib.Bits.{and_le_r, or_lt}

-- a number by its sixteen lowest bits
by_bits : (n : ℕ) (bs : List Bool) → n < 2 ^ 16 → length bs ≡ 16
    → ((i : ℕ) → i < 16 → bit_at n i ≡ cond (get_or bs i false) 1 0)
    → n ≡ mask_l bs
by_bits n bs small long same =
    same_from_bits_below 16 n (mask_l bs) small (rw long at (mask_l-lt bs))
    (λ i low. same i low ∙ sym (bit_mask_l bs i))

-- both bits, and neither of two bits
both : (b : Bool) (n : ℕ) → n < 2 → min (cond b 1 0) n ≡ cond (cond (eqb n 1) b false) 1 0
both b zero h = omega arith
both true (suc zero) h = refl
both false (suc zero) h = refl
both b (suc (suc n)) h = absurd (omega arith)

neither : (m n : ℕ) → m < 2 → n < 2
    → 1 - max m n ≡ cond (cond (eqb m 1) false (cond (eqb n 1) false true)) 1 0
neither zero zero h k = refl
neither zero (suc zero) h k = refl
neither (suc zero) zero h k = refl
neither (suc zero) (suc zero) h k = refl
neither m (suc (suc n)) h k = absurd (omega arith)
neither (suc (suc m)) n h k = absurd (omega arith)

either : (m n : ℕ) → m < 2 → n < 2 → max m n ≡ cond (cond (eqb m 1) true (eqb n 1)) 1 0
either zero zero h k = refl
either zero (suc zero) h k = refl
either (suc zero) zero h k = refl
either (suc zero) (suc zero) h k = refl
either m (suc (suc n)) h k = absurd (omega arith)
either (suc (suc m)) n h k = absurd (omega arith)

-- a test of the bit is the bit
bit_is : (b : Bool) → eqb (cond b 1 0) 1 ≡ b
bit_is true = refl
bit_is false = refl

-- a bit is its test
is_bit : (n : ℕ) → n < 2 → n ≡ cond (eqb n 1) 1 0
is_bit zero h = refl
is_bit (suc zero) h = refl
is_bit (suc (suc n)) h = absurd (omega arith)

module _ (tags : List ℕ) (owns guests : ℕ) where
  abbrev marks : List Mark
  marks = map (mark_of tags owns guests) (range_with_len 0 16)

  pub mark_read : (j : ℕ) → j < 16 → get_or marks j free_mark ≡ mark_of tags owns guests j
  mark_read j low = get_or-map-range_with_len (mark_of tags owns guests) 0 16 j j free_mark low (omega arith)

  -- the test of a mark
  test_read : (p : Mark → Bool) (j : ℕ) → j < 16 → get_or (map p marks) j false ≡ p (mark_of tags owns guests
      j)
  test_read p j low =
      get_or-map p marks j free_mark false
      (omega (arith, low, length-map-range_with_len (mark_of tags owns guests) 0 16))
      ∙ ap p (mark_read j low)

  tests_long : (p : Mark → Bool) → length (map p marks) ≡ 16
  tests_long p = length-map marks p ∙ length-map-range_with_len (mark_of tags owns guests) 0 16

  -- the slots with this tag, of those with nodes of the group
  pub with_tag_mask : (tag : ℕ) → owns < 2 ^ 16 → length tags ≡ 16
      → bit_and (mask_l (map (λ t. eqb t tag) tags)) owns ≡ mask_l (map (has_own tag) marks)
  with_tag_mask tag small long =
      let same = mask_l (map (λ t. eqb t tag) tags) in
      by_bits (bit_and same owns) (map (has_own tag) marks) (omega (arith, small, and_le_r same owns))
      (tests_long (has_own tag)) (λ i low.
      let read : get_or (map (λ t. eqb t tag) tags) i false ≡ eqb (get_or tags i 0) tag
      = get_or-map (λ t. eqb t tag) tags i 0 false (omega (arith, low, long)) in
      bit_at_and same owns i ∙ ap (λ n. min n (bit_at owns i)) (bit_mask_l (map (λ t. eqb t tag) tags) i)
      ∙ ap (λ b. min (cond b 1 0) (bit_at owns i)) read
      ∙ both (eqb (get_or tags i 0) tag) (bit_at owns i) (bit_at-lt owns i)
      ∙ ap (λ b. cond b 1 0) (sym (test_read (has_own tag) i low)))

  -- the slots with nodes
  pub taken_mask : owns < 2 ^ 16 → guests < 2 ^ 16 → bit_or owns guests ≡ mask_l (map is_taken marks)
  taken_mask small few =
      by_bits (bit_or owns guests) (map is_taken marks) (or_lt 16 owns guests small few) (tests_long is_taken)
      (λ i low.
      bit_at_or owns guests i
      ∙ either (bit_at owns i) (bit_at guests i) (bit_at-lt owns i) (bit_at-lt guests i)
      ∙ ap (λ b. cond b 1 0) (sym (test_read is_taken i low)))

  -- the slots without nodes
  pub free_mask : owns < 2 ^ 16 → guests < 2 ^ 16 → 65535 - bit_or owns guests ≡ mask_l (map is_free marks)
  free_mask small few =
      let taken = bit_or owns guests in
      let fits : taken < 2 ^ 16 = or_lt 16 owns guests small few in
      by_bits (65535 - taken) (map is_free marks) (omega arith) (tests_long is_free) (λ i low.
      bit_at_not w16 taken i fits low ∙ ap (λ n. 1 - n) (bit_at_or owns guests i)
      ∙ neither (bit_at owns i) (bit_at guests i) (bit_at-lt owns i) (bit_at-lt guests i)
      ∙ ap (λ b. cond b 1 0) (sym (test_read is_free i low)))

  -- a mark is set
  pub marks-set : (lane : ℕ) (mark : Mark) (own guest : ℕ) → lane < 16 → length tags ≡ 16
      → bit_at own lane ≡ cond mark.own 1 0 → ((i : ℕ) → i < 16 → i ≢ lane → bit_at own i ≡ bit_at owns i)
      → bit_at guest lane ≡ cond mark.guest 1 0
      → ((i : ℕ) → i < 16 → i ≢ lane → bit_at guest i ≡ bit_at guests i)
      → map (mark_of (set tags lane mark.tag) own guest) (range_with_len 0 16) ≡ set marks lane mark
  marks-set lane mark own guest low long own_here own_there guest_here guest_there =
      let all = length-map-range_with_len (mark_of tags owns guests) 0 16 in
      sym (fill_by_all (mark_of (set tags lane mark.tag) own guest) (set marks lane mark) 16 free_mark
      (length-set marks lane mark ∙ all)
      (λ k small. elim (cases_eq k lane)
      as (λ _. get_or (set marks lane mark) k free_mark ≡ mark_of (set tags lane mark.tag) own guest k) [
        | inl e ↦
            rw (
              e,
              get_or-set_same marks lane mark free_mark (omega (arith, low, all)),
              get_or-set_same tags lane mark.tag 0 (omega (arith, low, long)),
              own_here,
              guest_here,
              bit_is mark.own,
              bit_is mark.guest,
            ) refl
        | inr ne ↦
            rw (
              get_or-set_other marks lane k mark free_mark ne,
              mark_read k small,
              get_or-set_other tags lane k mark.tag 0 ne,
              own_there k small ne,
              guest_there k small ne,
            ) refl
      ]))

  -- a node of the group is put, and the bit for a guest stays
  pub marks-own : (lane tag own : ℕ) → lane < 16 → length tags ≡ 16 → bit_at own lane ≡ 1
      → ((i : ℕ) → i < 16 → i ≢ lane → bit_at own i ≡ bit_at owns i)
      → map (mark_of (set tags lane tag) own guests) (range_with_len 0 16)
      ≡ set marks lane (record (get_or marks lane free_mark) { tag = tag; own = true })
  marks-own lane tag own low long here there =
      let stays = is_bit (bit_at guests lane) (bit_at-lt guests lane) in
      marks-set lane (record (mark_of tags owns guests lane) { tag = tag; own = true }) own guests low long
      here there stays (λ i _ _. refl)
      ∙ ap (λ (m : Mark). set marks lane (record m { tag = tag; own = true })) (sym (mark_read lane low))

  -- the node is taken out, and the tag stays
  pub marks-free : (lane own guest : ℕ) → lane < 16 → length tags ≡ 16 → bit_at own lane ≡ 0
      → ((i : ℕ) → i < 16 → i ≢ lane → bit_at own i ≡ bit_at owns i)
      → bit_at guest lane ≡ 0 → ((i : ℕ) → i < 16 → i ≢ lane → bit_at guest i ≡ bit_at guests i)
      → map (mark_of tags own guest) (range_with_len 0 16)
      ≡ set marks lane (record (get_or marks lane free_mark) { own = false; guest = false })
  marks-free lane own guest low long own_here own_there guest_here guest_there =
      ap (λ ts. map (mark_of ts own guest) (range_with_len 0 16)) (sym (set-get_or tags lane 0))
      ∙ marks-set lane (record (mark_of tags owns guests lane) { own = false; guest = false }) own guest low
      long own_here own_there guest_here guest_there
      ∙ ap (λ (m : Mark). set marks lane (record m { own = false; guest = false })) (sym (mark_read lane low))
