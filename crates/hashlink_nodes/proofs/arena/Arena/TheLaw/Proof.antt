-- A `&` to the arena gives access to each value. Assumes `Logic`.
use Rattle.std.specs.contracts.marker.PhantomData as marker
use Rattle.hashlink_nodes.specs.contracts.arena.Arena as C
use Rattle.hashlink_nodes.{proofs.ArenaSharing.{blocks_lent_laws, Lends-blocks}, proofs.Names.{[], ◌++◌}}
use Rattle.hashlink_nodes.proofs.Names.{Incl-trans, meet_⊑_left, RattleType, RawPtr, Laws, copy_shared}
use Rattle.hashlink_nodes.{proofs.Names.{field_copy, of_Lends}, proofs.arena.Arena.TheLaw.Statement.statement}

pub shares : (R : RattleType) (L : Laws R) → statement R L
shares R L =
    of_Lends (C.struct R) (C.the_codes R.Denot R.coded (marker.the_row RawPtr).coded)
    (C.the_heap R) (C.the_lent R)
    (λ d p. blocks_lent_laws R L.shr_laws d.blocks)
    (copy_shared (marker.the_field RawPtr) (field_copy (marker.the_type RawPtr) tt), tt)
    (λ M 𝓤 𝓛 d p. Lends-blocks 𝓛 (C.the_row R).lives R L
    (Incl-trans (meet_⊑_left (R.lives ++ []) _) (meet_⊑_left R.lives [])) d.blocks)
