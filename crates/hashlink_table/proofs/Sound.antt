-- The fields of a table agree.
use Rattle.hashlink_table.proofs.Names
use Names.{◌≡◌, ℕ, zero, suc, ◌+◌, ◌-◌, ◌/◌, ◌<◌, ◌≤◌, List, [], ◌∷◌, length}
use Names.{replicate, None, refl, sym, ap, ◌∙◌, arith, IsPermutation}
use Names.{length-replicate, length-map, length_permutation, Hashed, Cell, Head, END}
use Names.{Bool, Option, cell_at, cond, emptied, false, guest_at, map, own_at}
use Names.{chain_of, chain_at, links_of, first_at, nodes_in, contents, AreSizes, IsArranged}
use Names.{IsSound}
use Names.{IsLinked, bare_cell, no_guests, Contents}
use Rattle.hashlink_table.proofs.Nodes.{nodes_in-emptied}

-- no chain has a guest
pub first-none : (n b : ℕ) → first_at (replicate n no_guests) b ≡ END
first-none zero b = refl
first-none (suc n) zero = refl
first-none (suc n) (suc b) = first-none n b

-- no cell has a node
abbrev AreFree : {N : Type 0} → List (Cell N) → Type 0
AreFree slots = (i : ℕ) → cell_at slots i ≡ (None, false)

-- n bare cells have none, and cells that lost theirs
free-bare : (N : Type 0) (n : ℕ) → AreFree (replicate n (bare_cell {N = N}))
free-bare N zero i = refl
free-bare N (suc n) zero = refl
free-bare N (suc n) (suc i) = free-bare N n i

free-emptied : {N : Type 0} (slots : List (Cell N)) → AreFree (map emptied slots)
free-emptied [] i = refl
free-emptied (c ∷ cs) zero = refl
free-emptied (c ∷ cs) (suc i) = free-emptied cs i

module _ {N : Type 0} where
  -- the chains of slots without guests are empty
  pub linked-none : (slots : List (Cell N)) (n : ℕ) → n ≤ length slots → ((i : ℕ) → guest_at slots i ≡ None)
      → IsLinked slots (replicate n no_guests)
  linked-none slots n few none b h =
      let m = length slots in
      let long : length (links_of (replicate n no_guests)) ≡ n
      = length-map (replicate n no_guests) (λ (d : Head). d.first) ∙ length-replicate n no_guests in
      let off : (i : ℕ) → chain_at m slots i ≡ b → ⊥
      = λ i e. omega (arith, e, h, long, few, ap (chain_of m) (none i)) in
      record {
        rank = record {
          of = λ i. END - i;
          top = END + 1;
          ends = omega arith;
          below = λ i. omega arith;
          apart = λ i j low high e. omega (arith, low, high, e);
        };
        small = λ i e. absurd (off i e);
        started = record {
          on = λ ne. absurd (ne (first-none n b));
          falls = rw (first-none n b) (omega arith);
          whole = λ i e. absurd (off i e);
        };
        linked = λ i e. absurd (off i e);
      }

  -- slots without nodes
  arranged-free : (slots : List (Cell N)) (h : ℕ) → AreFree slots → h ≡ length slots / 16
      → IsArranged slots (replicate h no_guests)
  arranged-free slots h free paired =
      let guest : (i : ℕ) → guest_at slots i ≡ None
      = λ i. ap (λ (w : Option (Hashed N) × Bool). cond w.1 w.0 None) (free i) in
      let own : (i : ℕ) → own_at slots i ≡ None
      = λ i. ap (λ (w : Option (Hashed N) × Bool). cond w.1 None w.0) (free i) in
      record {
        linked = linked-none slots h (omega (arith, paired)) guest;
        in_place = λ at k is. absurd (cc (sym (own at) ∙ is));
        covered = λ at k is. absurd (cc (sym (guest at) ∙ is));
        paired = length-replicate h no_guests ∙ paired;
      }

  pub arranged-bare : (n h : ℕ) → h ≡ n / 16
      → IsArranged (replicate n (bare_cell {N = N})) (replicate h no_guests)
  arranged-bare n h paired =
      arranged-free (replicate n bare_cell) h (free-bare N n)
      (omega (arith, paired, length-replicate n (bare_cell {N = N})))

  pub sound-new : IsSound {N = N} [] [] 0 0
  sound-new = record {
    arranged = arranged-bare 0 0 refl;
    sizes = record {
      headed = omega arith;
      bounded = omega arith;
      none = λ _. refl;
      small = omega arith;
      masked = λ h. absurd (omega (arith, h));
      whole = omega arith;
    };
    counted = refl;
    held = omega arith;
  }

  pub sound-cleared : {slots : List (Cell N)} {heads : List Head} {len room : ℕ}
      → IsSound slots heads len room
      → IsSound (map emptied slots) (replicate (length slots / 16) no_guests) 0 room
  sound-cleared {slots} s =
      let long = length-map slots (emptied {N = N}) in
      record {
        arranged = arranged-free (map emptied slots) _ (free-emptied slots) (omega (arith, long));
        sizes = rw long s.sizes;
        counted = rw (nodes_in-emptied slots) refl;
        held = omega arith;
      }

  -- the same nodes in other slots, with another room
  pub sound-resized : {slots : List (Cell N)} {heads : List Head} {len room : ℕ} (later : List (Cell N))
      (other : List Head) (more : ℕ)
      → IsSound slots heads len room → AreSizes (length later) more → len ≤ more → IsArranged later other
      → IsPermutation (nodes_in slots) (nodes_in later)
      → IsSound later other len more
  sound-resized later other more s sizes held arranged nodes = record {
    arranged = arranged;
    sizes = sizes;
    counted = s.counted ∙ sym (length_permutation _ _ nodes);
    held = held;
  }

  -- one more node
  pub sound-put : {slots : List (Cell N)} {heads : List Head} {len room : ℕ} (later : List (Cell N))
      (more : List Head) (k : Hashed N)
      → IsSound slots heads len room → len < room → length later ≡ length slots → IsArranged later more
      → IsPermutation (k ∷ nodes_in slots) (nodes_in later)
      → IsSound later more (len + 1) room
  sound-put later more k s room_left long arranged nodes = record {
    arranged = arranged;
    sizes = rw long s.sizes;
    counted = omega (arith, s.counted, length_permutation _ _ nodes);
    held = omega (arith, room_left);
  }

  -- one node fewer
  pub sound-take : {slots : List (Cell N)} {heads : List Head} {len room : ℕ} (later : List (Cell N))
      (less : List Head) (k : Hashed N)
      → IsSound slots heads len room → length later ≡ length slots → IsArranged later less
      → IsPermutation (nodes_in slots) (k ∷ nodes_in later)
      → IsSound later less (len - 1) room
  sound-take later less k s long arranged nodes = record {
    arranged = arranged;
    sizes = rw long s.sizes;
    counted = omega (arith, s.counted, length_permutation _ _ nodes);
    held = omega (arith, s.held);
  }

-- a contract sees no nodes of it
pub contents-cleared : {N : Type 0} (slots : List (Cell N)) (room : ℕ)
    → contents (map emptied slots) room ≡ record { nodes = []; room = room }
contents-cleared {N} slots room =
    ap (λ (ks : List (Hashed N)). let t : Contents N = record { nodes = ks; room = room } in t)
    (nodes_in-emptied slots)
