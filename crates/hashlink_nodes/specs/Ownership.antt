-- What an arena owns and lends, for pairs of the row R.
use Rattle.std.specs.Prelude.{◌≡◌, ℕ, ◌+◌, ◌^◌, List, [], ◌∷◌, Option, None, Some, refl}
use base.{Fraction.full_share, Fml.Lft, Fml.Fml, Fml.ftrue, Fml.fsep, Fml.fwand, Fml.flt}
use denote.{Builtin.usize, RattleType.RattleType, Memory.lone, Sharing.nothing, Sharing.said, Sharing.beside}
use denote.{Struct.Lending.lent_at, RawPtr.Ptr, RawPtr.lies_at, RawPtr.room_for, RawPtr.◌+ₚ◌}
use Rattle.std.{specs.declared.alloc.Global.Global, specs.contracts.impls.GlobalAllocator.TheImpl.ghosts}
use mir.{Syntax.Ty, Syntax.ty_struct, Syntax.tcons, Syntax.tnil, Raw.raw}
use prog.Memory.{size, align, up}
use Rattle.hashlink_nodes.specs.{Kept.Kept, Kept.number_word, declared.node.Node.Node}
use Rattle.hashlink_nodes.specs.contracts.pool.links.Links as links

-- a formula of the members that is the same at every handle
abbrev pub at_every_handle : {token : Ty → Ptr → Fml}
    → ((heap : Global) → ghosts.dealloc_token heap ≡ token) → Ty
    → Ptr
    → Fml
at_every_handle {token} alike = token

-- the right to give a block back to `Global`
abbrev pub free_right : Ty → Ptr → Fml
free_right = at_every_handle (λ heap. refl)

abbrev pub Links : RattleType
Links = links.the_row

module _ (R : RattleType) where
  -- the offsets of the pair, the number and the links in a block
  abbrev pub pair_offset : ℕ
  pair_offset = up (align (lone R.mir)) 0

  abbrev pub number_offset : ℕ
  number_offset = up (align (lone usize.mir)) (pair_offset + size (lone R.mir))

  abbrev pub links_offset : ℕ
  links_offset = up (align (lone Links.mir)) (number_offset + size (lone usize.mir))

  abbrev pub pair_of : Ptr → Ptr
  pair_of p = p +ₚ pair_offset

  abbrev pub number_of : Ptr → Ptr
  number_of p = p +ₚ number_offset

  abbrev pub links_of : Ptr → Ptr
  links_of p = p +ₚ links_offset

  -- the type of a block, as the machine sees it
  abbrev pub block_type : Ty
  block_type =
      ty_struct [] (tcons (raw (lone R.mir)) (tcons (raw (lone usize.mir)) (tcons (raw
      (lone Links.mir)) tnil)))

  -- room for each of the three
  abbrev pub pair_room : Ptr → Fml
  pair_room p = room_for (raw (lone R.mir)) (pair_of p)

  abbrev pub block_room : Ptr → Fml
  block_room p =
      fsep (pair_room p)
      (fsep (room_for (raw (lone usize.mir)) (number_of p)) (room_for (raw (lone Links.mir)) (links_of p)))

  -- the right to free a block, and that the three rooms together are the block
  abbrev pub deed_owns : Ptr → Fml
  deed_owns p = fsep (free_right block_type p) (fwand (block_room p) (room_for block_type p))

  -- the pair, or room for one
  abbrev pub pair_owns : Ptr → Option (ℕ × R.Denot) → Fml
  pair_owns p None = pair_room p
  pair_owns p (Some e) = lies_at R full_share (pair_of p) e.1

  -- the number of an entry is not that of a block without one
  abbrev pub is_small : Option (ℕ × R.Denot) → Fml
  is_small None = ftrue
  is_small (Some e) = flt e.0 (2 ^ 48)

  abbrev pub block_owns : Ptr → Kept R.Denot → Fml
  block_owns p k =
      fsep (pair_owns p k.entry) (fsep (fsep (is_small k.entry) (lies_at usize full_share (number_of p)
      (number_word k.entry)))
      (fsep (lies_at Links full_share (links_of p) k.links) (deed_owns p)))

  abbrev pub blocks_own : List (Node × Kept R.Denot) → Fml
  blocks_own [] = ftrue
  blocks_own (b ∷ bs) = fsep (block_owns b.0.at b.1) (blocks_own bs)

  -- what a `&` to the arena lends
  abbrev pub pair_lent : Ptr → Option (ℕ × R.Denot) → Lft → Fml
  pair_lent p None = nothing
  pair_lent p (Some e) = lent_at R (pair_of p) e.1

  abbrev pub block_lent : Ptr → Kept R.Denot → Lft → Fml
  block_lent p k =
      beside (pair_lent p k.entry) (beside (beside (said (is_small k.entry)) (lent_at usize (number_of p)
      (number_word k.entry)))
      (lent_at Links (links_of p) k.links))

  abbrev pub blocks_lent : List (Node × Kept R.Denot) → Lft → Fml
  blocks_lent [] = nothing
  blocks_lent (b ∷ bs) = beside (block_lent b.0.at b.1) (blocks_lent bs)
