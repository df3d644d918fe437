-- One block of an arena, taken out and put back. Assumes `Logic`.
use Rattle.hashlink_nodes.proofs.Cuts.{cut_at}
use Rattle.hashlink_nodes.proofs.Names
use Names.{◌++◌, id⊢, ◌≡◌, ℕ, ◌+◌, ◌^◌, ◌<◌, arith, List, [], ◌∷◌, Option, None, Some, IsSome, refl, sym}
use Names.{subst, lookup, remove_entry, IfSome, nothing, Ura, ent, sep, via, fst∗, snd∗, never, never_e, Fml}
use Names.{Lft, fat, froom, Logic, sem, Item, Goal, Seq, ‵, raw, prop, mean, some, ◌⊛◌, ◌$◌, ◌∵◌, !, qed, by}
use Names.{move, keep, use1, use2, pick, drop, flt_l, flt_i, Step, step, split, fsplit, fsplit3, fjoin, done}
use Names.{Model, Ty, Val, full_share, fact, fact_i, fact_use, lone, part_out, RattleType, Ptr, block_ptr}
use Rattle.hashlink_nodes.specs.Blocks.{AreFound, with_block, blocks_of, without}
use Names.{null_ptr, block_lent, block_owns, blocks_lent, blocks_own, links_offset, is_small, Links, Kept}
use Names.{alter, entry_in, same_node, Node, ap, option_map, ty_int, w64, vint, number_word, number_offset}
use Names.{number_of, pair_owns, lies_at, links_of, deed_owns, fsep, in_a_block, rewrite, usize, uint_out}

-- what a lookup found
pub found : {X : Type 0} (o : Option X) → IsSome o → (x : X) × (o ≡ Some x)
found (Some x) t = (x, refl)
found None t = absurd (cc t)

-- the entry of the block that a lookup found
pub found_entry : {T : Type 0} (o : Option (Kept T)) → IsSome (entry_in o)
    → (k : Kept T) × (e : ℕ × T) × (o ≡ Some k) × (k.entry ≡ Some e)
    × (option_map (λ (x : ℕ × T). x.1) (entry_in o) ≡ Some e.1)
found_entry None t = absurd (cc t)
found_entry {T} (Some k) t =
    let e = found k.entry t in (k, e.0, refl, e.1, ap (option_map (λ (x : ℕ × T). x.1)) e.1)

module _ (R : RattleType) {M : Type 1} {𝓤 : Ura M} (𝓛 : Logic 𝓤) (n : Node) where
  abbrev Entries : Type 0
  Entries = List (Node × Kept R.Denot)

  abbrev pub One : Kept R.Denot → Fml
  One x = block_owns R n.at x

  module _ (x : Kept R.Denot) (ys : Entries) where
    out_of : (xs : Entries) → ent 𝓤 (sem 𝓛 (blocks_own R (xs ++ (n, x) ∷ ys)))
        (sep 𝓤 (sem 𝓛 (One x)) (sem 𝓛 (blocks_own R (xs ++ ys))))
    out_of [] = id⊢ 𝓤 _
    out_of (b ∷ xs) = qed 𝓛 (‵ (blocks_own R (b ∷ (xs ++ (n, x) ∷ ys))) ∷ []) ∵ fsplit ! $ move ! (1 ∷ []) $
        use1 𝓛 (‵ (One x) ⊛ ‵ (blocks_own R (xs ++ ys))) (out_of xs) $ split ! $ move ! (2 ∷ 1 ∷ []) $
        fjoin ! $ move ! (1 ∷ []) $ done !

    back_in : (xs : Entries) → ent 𝓤 (sep 𝓤 (sem 𝓛 (One x)) (sem 𝓛 (blocks_own R (xs ++ ys))))
        (sem 𝓛 (blocks_own R (xs ++ (n, x) ∷ ys)))
    back_in [] = id⊢ 𝓤 _
    back_in (b ∷ xs) = qed 𝓛 (‵ (One x) ∷ ‵ (blocks_own R (b ∷ (xs ++ ys))) ∷ []) ∵ move ! (1 ∷ []) $
        fsplit ! $ move ! (2 ∷ 1 ∷ []) $
        use2 𝓛 (‵ (blocks_own R (xs ++ (n, x) ∷ ys))) (back_in xs) $ move ! (1 ∷ 0 ∷ []) $ fjoin ! $ done !

    shown : (κ : Lft) (xs : Entries)
        → ent 𝓤 (sem 𝓛 (blocks_lent R (xs ++ (n, x) ∷ ys) κ)) (sem 𝓛 (block_lent R n.at x κ))
    shown κ [] = fst∗ 𝓤 (sem 𝓛 (block_lent R n.at x κ)) (sem 𝓛 (blocks_lent R ys κ))
    shown κ (b ∷ xs) =
        let rest = sem 𝓛 (blocks_lent R (xs ++ (n, x) ∷ ys) κ) in
        via 𝓤 rest (snd∗ 𝓤 (sem 𝓛 (block_lent R b.0.at b.1 κ)) rest) (shown κ xs)

  -- the block of n is taken out
  pub blocks_cut : (bs : Entries) (x : Kept R.Denot) → lookup (same_node n) bs ≡ Some x
      → ent 𝓤 (sem 𝓛 (blocks_own R bs))
      (sep 𝓤 (sem 𝓛 (One x)) (sem 𝓛 (blocks_own R (remove_entry (same_node n) bs))))
  blocks_cut bs x e =
      let c = cut_at bs n x e in
      subst (λ (t : Entries × Kept R.Denot × Entries). ent 𝓤 (sem 𝓛 (blocks_own R t.0))
      (sep 𝓤 (sem 𝓛 (One t.1)) (sem 𝓛 (blocks_own R t.2))))
      (λ i. (sym c.0.is i, c.1 i, sym c.0.removed i)) (out_of c.0.value c.0.after c.0.before)

  -- a block is put where another one was taken out
  pub blocks_glue : (bs : Entries) (x : Kept R.Denot) (f : Kept R.Denot → Kept R.Denot)
      → lookup (same_node n) bs ≡ Some x
      → ent 𝓤 (sep 𝓤 (sem 𝓛 (One (f x))) (sem 𝓛 (blocks_own R (remove_entry (same_node n) bs))))
      (sem 𝓛 (blocks_own R (alter (same_node n) f bs)))
  blocks_glue bs x f e =
      let c = cut_at bs n x e in
      subst (λ (t : Kept R.Denot × Entries × Entries).
      ent 𝓤 (sep 𝓤 (sem 𝓛 (One (f t.0))) (sem 𝓛 (blocks_own R t.1))) (sem 𝓛 (blocks_own R t.2)))
      (λ i. (c.1 i, sym c.0.removed i, sym (c.0.altered f) i))
      (back_in (f c.0.value) c.0.after c.0.before)

  -- a `&` to the arena shows the block of n
  pub block_seen : (κ : Lft) (bs : Entries) (x : Kept R.Denot) → lookup (same_node n) bs ≡ Some x
      → ent 𝓤 (sem 𝓛 (blocks_lent R bs κ)) (sem 𝓛 (block_lent R n.at x κ))
  block_seen κ bs x e =
      let c = cut_at bs n x e in
      subst (λ (t : Entries × Kept R.Denot). ent 𝓤 (sem 𝓛 (blocks_lent R t.0 κ))
      (sem 𝓛 (block_lent R n.at t.1 κ))) (λ i. (sym c.0.is i, c.1 i)) (shown c.0.value c.0.after κ c.0.before)

module _ (R : RattleType) {M : Type 1} {𝓤 : Ura M} (𝓛 : Logic 𝓤) where
  -- the blocks of some nodes are taken out
  pub blocks_parted : (ns : List Node) (bs : List (Node × Kept R.Denot)) → AreFound ns bs
      → ent 𝓤 (sem 𝓛 (blocks_own R bs))
      (sep 𝓤 (sem 𝓛 (blocks_own R (blocks_of ns bs))) (sem 𝓛 (blocks_own R (without ns bs))))
  blocks_parted [] bs f = qed 𝓛 (‵ (blocks_own R bs) ∷ []) ∵ nothing ! $ done !
  blocks_parted (n ∷ ns) bs f =
      let k = found (lookup (same_node n) bs) f.0 in let left = remove_entry (same_node n) bs in
      subst (λ o. ent 𝓤 (sem 𝓛 (blocks_own R bs))
      (sep 𝓤 (sem 𝓛 (blocks_own R (with_block n o (blocks_of ns left))))
      (sem 𝓛 (blocks_own R (without ns left)))))
      (sym k.1) (qed 𝓛 (‵ (blocks_own R bs) ∷ []) ∵
      use1 𝓛 (‵ (block_owns R n.at k.0) ⊛ ‵ (blocks_own R left)) (blocks_cut R 𝓛 n bs k.0 k.1) $ split ! $
      move ! (1 ∷ []) $
      use1 𝓛 (‵ (blocks_own R (blocks_of ns left)) ⊛ ‵ (blocks_own R (without ns left)))
      (blocks_parted ns left f.1) $ split ! $ move ! (2 ∷ 0 ∷ []) $ fjoin ! $ done !)

module _ (R : RattleType) {M : Type 1} {𝓤 : Ura M} (𝓛 : Logic 𝓤) (𝓜 : Model 𝓤 𝓛.H) where
  abbrev τ : Ty
  τ = lone Links.mir

  -- two blocks have different addresses, since their links have bytes
  clash : (p : Ptr) (x y : Kept R.Denot)
      → ent 𝓤 (sep 𝓤 (sem 𝓛 (block_owns R p x)) (sem 𝓛 (block_owns R p y))) (never 𝓤)
  clash (block_ptr b o) x y =
      let at = o + links_offset R in
      let Cell : Kept R.Denot → Item 𝓤
      = λ k. some (λ (v : Val). ‵ (fat full_share τ b at v) ⊛ ‵ (Links.own_val k.links (v ∷ []))) in
      qed 𝓛 (‵ (block_owns R (block_ptr b o) x) ∷ ‵ (block_owns R (block_ptr b o) y) ∷ []) ∵
      fsplit3 ! $ move ! (2 ∷ []) $ fsplit ! $ keep ! (0 ∷ 4 ∷ []) $ move ! (1 ∷ []) $ fsplit3 ! $
      move ! (2 ∷ []) $
      fsplit ! $ keep ! (0 ∷ 4 ∷ []) $
      use1 𝓛 (Cell y) (part_out 𝓛 Links refl full_share y.links b at) $ pick ! (λ v. split ! $
      move ! (2 ∷ []) $
      use1 𝓛 (Cell x) (part_out 𝓛 Links refl full_share x.links b at) $ pick ! (λ w. split ! $
      keep ! (0 ∷ 2 ∷ []) $
      use1 𝓛 (‵ (froom τ b at)) (𝓛.laws.at_room τ b at w) $
      by !
      (𝓜.room_at τ τ b at at at full_share v (omega arith, omega arith)
      (omega arith, omega arith))))
  clash null_ptr x y =
      qed 𝓛 (‵ (block_owns R null_ptr x) ∷ ‵ (block_owns R null_ptr y) ∷ []) ∵
      fsplit3 ! $ move ! (2 ∷ []) $ fsplit ! $ keep ! (0 ∷ []) $ done !

  -- a block that is owned besides an arena's is none of the arena's
  pub apart_from : (n : Node) (x : Kept R.Denot) (bs : List (Node × Kept R.Denot))
      → ent 𝓤 (sep 𝓤 (sem 𝓛 (block_owns R n.at x)) (sem 𝓛 (blocks_own R bs)))
      (fact 𝓤 (lookup (same_node n) bs ≡ None))
  apart_from n x bs = (elim (lookup (same_node n) bs) as
      (λ (o : Option (Kept R.Denot)). lookup (same_node n) bs ≡ o
      → ent 𝓤 (sep 𝓤 (sem 𝓛 (block_owns R n.at x)) (sem 𝓛 (blocks_own R bs))) (fact 𝓤 (o ≡ None))) [
        | None ↦ λ _. fact_i 𝓤 _ _ refl
        | Some y ↦ λ e. qed 𝓛 (‵ (block_owns R n.at x) ∷ ‵ (blocks_own R bs) ∷ []) ∵ move ! (1 ∷ []) $
            use1 𝓛 (‵ (block_owns R n.at y) ⊛ ‵ (blocks_own R (remove_entry (same_node n) bs)))
            (blocks_cut R 𝓛 n bs y e) $
            split ! $ keep ! (0 ∷ 2 ∷ []) $ use2 𝓛 (raw (never 𝓤)) (clash n.at y x) $ by ! (never_e 𝓤 _)
      ]) refl

module _ {M : Type 1} {𝓤 : Ura M} {𝓛 : Logic 𝓤} {K : Type 0} {Γ : List (Item 𝓤)} {G : Goal 𝓤 𝓛.H} where
  -- a fact that follows from two items becomes known, and the two stay
  pub knows : K → {i j : Item 𝓤} (φ : Type 0) → ent 𝓤 (sep 𝓤 (mean 𝓛 i) (mean 𝓛 j)) (fact 𝓤 φ)
      → (φ → Seq K 𝓛 (i ∷ j ∷ Γ) G)
      → Seq K 𝓛 (i ∷ j ∷ Γ) G
  knows t {i} {j} φ h k =
      let shown : Seq K 𝓛 (i ∷ j ∷ Γ) (prop (fact 𝓤 φ)) = use2 𝓛 (raw (fact 𝓤 φ)) h $
      keep t (0 ∷ []) $ done t in
      record { prf = fact_use 𝓤 φ shown.prf (λ x. (k x).prf) }

  -- the block of n is taken out of an arena's, and its address is known. Then come its number, the pair that
  -- it holds or room for one, and the links with the deed
  pub block_out : (R : RattleType) → K → (n : Node) (bs : List (Node × Kept R.Denot)) (k : Kept R.Denot)
      (entry : Option (ℕ × R.Denot)) → lookup (same_node n) bs ≡ Some k → k.entry ≡ entry
      → ((b o : ℕ) → n.at ≡ block_ptr b o
      → Seq K 𝓛 (‵ (fat full_share (ty_int w64) b (o + number_offset R) (vint w64 (number_word entry)))
      ∷ ‵ (pair_owns R (block_ptr b o) entry)
      ∷ ‵ (fsep (lies_at Links full_share (links_of R (block_ptr b o)) k.links) (deed_owns R (block_ptr b o)))
      ∷ ‵ (blocks_own R (remove_entry (same_node n) bs)) ∷ Γ) G)
      → Seq K 𝓛 (‵ (blocks_own R bs) ∷ Γ) G
  block_out R t n bs k entry is_k is_entry go =
      use1 𝓛 (‵ (block_owns R n.at k) ⊛ ‵ (blocks_own R (remove_entry (same_node n) bs)))
      (blocks_cut R 𝓛 n bs k is_k) $ split t $ fsplit3 t $ move t (2 ∷ []) $ fsplit t $
      in_a_block t n.at (λ p. lies_at Links full_share (links_of R p) k.links) (id⊢ 𝓤 (never 𝓤)) (λ b o e.
      move t (1 ∷ []) $ rewrite t 0 (λ (p : Ptr). ‵ (deed_owns R p)) e refl $ move t (1 ∷ 0 ∷ []) $ fjoin t $
      move t (1 ∷ []) $ rewrite t 0 (λ (x : Ptr × Option (ℕ × R.Denot)). ‵ (pair_owns R x.0 x.1))
      (λ i. (e i, is_entry i)) refl $ move t (2 ∷ []) $
      rewrite t 0 (λ (x : Ptr × Option (ℕ × R.Denot)). ‵ (fsep (is_small R x.1)
      (lies_at usize full_share (number_of R x.0) (number_word x.1)))) (λ i. (e i, is_entry i)) refl $
      fsplit t $ drop t $
      use1 𝓛 (‵ (fat full_share (ty_int w64) b (o + number_offset R) (vint w64 (number_word entry))))
      (uint_out 𝓛 full_share w64 (number_word entry) b (o + number_offset R)) $ go b o e)

  -- the bound on a number becomes known
  pub small_seen : (R : RattleType) → K → (e : Option (ℕ × R.Denot))
      → (IfSome e (λ x. x.0 < 2 ^ 48) → Seq K 𝓛 Γ G) → Seq K 𝓛 (‵ (is_small R e) ∷ Γ) G
  small_seen R t None k = drop t $ k tt
  small_seen R t (Some e) k = flt_l t (λ small. k small)

  pub small_shown : (R : RattleType) → K → (e : Option (ℕ × R.Denot)) → IfSome e (λ x. x.0 < 2 ^ 48)
      → Step K 𝓛 (‵ (is_small R e) ∷ Γ) G Γ G
  small_shown R t None small = step (λ s. nothing t $ s)
  small_shown R t (Some e) small = step (λ s. flt_i t e.0 (2 ^ 48) small $ s)
