-- A `&` to an arena, from a `&` to each part of its blocks. Assumes `Logic`.
use Rattle.hashlink_nodes.proofs.Names
use Names.{ℕ, List, [], ◌∷◌, Option, Some, None, Ura, Lft, Incl, ftrue, Logic, ⊑_static, usize, Laws}
use Names.{Sharable, copy_shared, RattleType, RowLaws, Ptr, ShrLaws, said, beside, beside_shr_laws}
use Names.{nothing_shr_laws, said_shr_laws, Shares-less, usize-field, usize-copy, Lends, lent_at}
use Names.{lent_at_shr_laws, Lends-lies, Lends-first, Lends-both, Lends-said, Lends-nothing, Kept}
use Names.{number_word, Links, blocks_lent, blocks_own, block_lent, block_owns, pair_lent, pair_owns}
use Names.{is_small, deed_owns, number_of, links_of, Node, pair_place}
use Rattle.hashlink_nodes.proofs.pool.links.Links.TheLaws as links_laws

abbrev number_laws : Sharable usize-field
number_laws = copy_shared usize-field usize-copy

abbrev pub LL : Laws Links
LL = links_laws.the_row_laws

module _ (R : RattleType) (L : RowLaws R) where
  pair_lent_laws : (p : Ptr) (e : Option (ℕ × R.Denot)) → ShrLaws (pair_lent R p e)
  pair_lent_laws p None = nothing_shr_laws
  pair_lent_laws p (Some e) = lent_at_shr_laws R L (pair_place R p) e.1

  small_laws : (e : Option (ℕ × R.Denot)) → ShrLaws (said (is_small R e))
  small_laws None = said_shr_laws ftrue tt
  small_laws (Some e) = said_shr_laws (is_small R (Some e)) tt

  block_lent_laws : (p : Ptr) (k : Kept R.Denot) → ShrLaws (block_lent R p k)
  block_lent_laws p k =
      beside_shr_laws _ _ (pair_lent_laws p k.entry)
      (beside_shr_laws _ _
      (beside_shr_laws _ _ (small_laws k.entry)
      (lent_at_shr_laws usize number_laws.shr_laws (number_of R p) (number_word k.entry)))
      (lent_at_shr_laws Links LL.shr_laws (links_of R p) k.links))

  pub blocks_lent_laws : (bs : List (Node × Kept R.Denot)) → ShrLaws (blocks_lent R bs)
  blocks_lent_laws [] = nothing_shr_laws
  blocks_lent_laws (b ∷ bs) = beside_shr_laws _ _ (block_lent_laws b.0.at b.1) (blocks_lent_laws bs)

module _ {M : Type 1} {𝓤 : Ura M} (𝓛 : Logic 𝓤) (l : Lft) (R : RattleType) (L : Laws R)
    (inc : Incl l R.lives) where
  Lends-pair : (p : Ptr) (e : Option (ℕ × R.Denot)) → Lends 𝓛 (pair_owns R p e) (pair_lent R p e) l
  Lends-pair p None = Lends-nothing 𝓛 (pair_owns R p None) l
  Lends-pair p (Some e) =
      Lends-lies 𝓛 R l (pair_place R p) e.1 (Shares-less 𝓛 R R.lives l inc (L.shares 𝓛) e.1)

  Lends-small : (e : Option (ℕ × R.Denot)) → Lends 𝓛 (is_small R e) (said (is_small R e)) l
  Lends-small None = Lends-said 𝓛 ftrue tt l
  Lends-small (Some e) = Lends-said 𝓛 (is_small R (Some e)) tt l

  Lends-block : (p : Ptr) (k : Kept R.Denot) → Lends 𝓛 (block_owns R p k) (block_lent R p k) l
  Lends-block p k =
      let small = said (is_small R k.entry) in let links = lent_at Links (links_of R p) k.links in
      let number = lent_at usize (number_of R p) (number_word k.entry) in
      Lends-both 𝓛 _ _ (pair_lent R p k.entry) (beside (beside small number) links) l (Lends-pair p k.entry)
      (Lends-both 𝓛 _ _ (beside small number) links l
      (Lends-both 𝓛 _ _ small number l (Lends-small k.entry)
      (Lends-lies 𝓛 usize l (number_of R p) (number_word k.entry)
      (Shares-less 𝓛 usize usize.lives l (⊑_static l) (number_laws.shares M 𝓤 𝓛) (number_word k.entry))))
      (Lends-first 𝓛 _ (deed_owns R p) links l
      (Lends-lies 𝓛 Links l (links_of R p) k.links
      (Shares-less 𝓛 Links Links.lives l (⊑_static l) (LL.shares 𝓛) k.links))))

  pub Lends-blocks : (bs : List (Node × Kept R.Denot)) → Lends 𝓛 (blocks_own R bs) (blocks_lent R bs) l
  Lends-blocks [] = Lends-nothing 𝓛 ftrue l
  Lends-blocks (b ∷ bs) =
      Lends-both 𝓛 _ _ (block_lent R b.0.at b.1) (blocks_lent R bs) l (Lends-block b.0.at b.1)
      (Lends-blocks bs)
