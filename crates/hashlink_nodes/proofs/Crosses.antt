-- An arena may cross threads as its pairs may: it reaches them and its blocks by itself.
use Rattle.std.{specs.Prelude.{ℕ, List, [], ◌∷◌, Option, None, Some}, proofs.Crossing.frees}
use mir.Syntax.{Ty}
use base.Shift.{Keyless}
use denote.{RattleType.RattleType, RawPtr.{Ptr, block_ptr, null_ptr, room_for}, Builtin.usize}
use denote.Struct.{Struct.exits_of, Owning.{shape, fields, to}}
use denote.Param.Send.{IsSend, IsSync, Common, AllSend, owning_send, struct_send, struct_sync, sendable}
use Rattle.std_alloc.proofs.SendSync.{quiet, lies, seen}
use Rattle.hashlink_nodes.specs.Ownership.{Links, block_lent, block_owns, blocks_lent, blocks_own, deed_owns}
use Rattle.hashlink_nodes.specs.{Kept.{Kept, number_word}, declared.node.Node.Node}
use Rattle.hashlink_nodes.specs.Ownership.{is_small, pair_lent, pair_owns}
use Rattle.hashlink_nodes.specs.contracts.arena.Arena as Arena

room : (τ : Ty) (p : Ptr) → Keyless (room_for τ p)
room τ (block_ptr b o) = tt
room τ null_ptr = tt

module _ (R : RattleType) where
  deed-Keyless : (p : Ptr) → Keyless (deed_owns R p)
  deed-Keyless p = (
    frees.frees (record { memory = record { seal = tt } }) _ p,
    ((room _ _, (room _ _, room _ _)), room _ p),
  )

  small-Keyless : (e : Option (ℕ × R.Denot)) → Keyless (is_small R e)
  small-Keyless None = tt
  small-Keyless (Some e) = tt

  module _ (s : IsSend R) where
    pair-Keyless : (p : Ptr) (e : Option (ℕ × R.Denot)) → Keyless (pair_owns R p e)
    pair-Keyless p None = room _ _
    pair-Keyless p (Some e) = lies R s _ e.1

    block-Keyless : (p : Ptr) (k : Kept R.Denot) → Keyless (block_owns R p k)
    block-Keyless p k = (
      pair-Keyless p k.entry,
      (
        (small-Keyless k.entry, lies usize (search sendable) _ (number_word k.entry)),
        (lies Links (search sendable depth 20) _ k.links, deed-Keyless p),
      ),
    )

    blocks-Keyless : (bs : List (Node × Kept R.Denot)) → Keyless (blocks_own R bs)
    blocks-Keyless [] = tt
    blocks-Keyless (b ∷ bs) = (block-Keyless b.0.at b.1, blocks-Keyless bs)

    pub Arena-send : IsSend (Arena.the_row R)
    Arena-send =
        let O = Arena.the_type R in let all : AllSend (fields O) = (search sendable, tt) in
        owning_send O all (λ d. blocks-Keyless d.blocks)
        (λ k. quiet (to O) (exits_of k (fields O)) ((struct_send (shape O) all).leaving k))

  module _ (y : IsSync R) where
    pair_lent-Common : (p : Ptr) (e : Option (ℕ × R.Denot)) → Common (pair_lent R p e)
    pair_lent-Common p None κ = tt
    pair_lent-Common p (Some e) κ = seen R y _ e.1 κ

    block_lent-Common : (p : Ptr) (k : Kept R.Denot) → Common (block_lent R p k)
    block_lent-Common p k κ = (
      pair_lent-Common p k.entry κ,
      (
        (small-Keyless k.entry, seen usize (search sendable) _ (number_word k.entry) κ),
        seen Links (search sendable depth 20) _ k.links κ,
      ),
    )

    blocks_lent-Common : (bs : List (Node × Kept R.Denot)) → Common (blocks_lent R bs)
    blocks_lent-Common [] κ = tt
    blocks_lent-Common (b ∷ bs) κ = (block_lent-Common b.0.at b.1 κ, blocks_lent-Common bs κ)

    pub Arena-sync : IsSync (Arena.the_row R)
    Arena-sync = let O = Arena.the_type R in record {
      shared = λ d b o κ. (
        (struct_sync (shape O) (search sendable, tt)).shared (to O d) b o κ,
        blocks_lent-Common d.blocks κ,
      );
    }
