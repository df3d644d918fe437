-- A `&` to the count owns nothing. Assumes `Logic`.
use Rattle.hashlink_nodes.proofs.Names.{RawPtr, copy_shared, nothing_shr_laws, field_copy, of_Lends}
use Rattle.hashlink_nodes.proofs.Names.{Lends-nothing}
use Rattle.std.specs.contracts.marker.PhantomData as marker
use Rattle.hashlink_nodes.specs.contracts.link_writes.LinkWrites as C
use Rattle.hashlink_nodes.proofs.link_writes.LinkWrites.TheLaw.Statement.{statement}

pub shares : statement
shares = of_Lends C.struct (C.the_codes (marker.the_row RawPtr).coded) C.the_heap C.the_lent
    (λ d p. nothing_shr_laws)
    (copy_shared (marker.the_field RawPtr) (field_copy (marker.the_type RawPtr) tt), tt)
    (λ M 𝓤 𝓛 d p. Lends-nothing 𝓛 (C.the_heap d) (C.the_row).lives)
