-- The names that many proofs of this crate import.
pub use Rattle.hashlink_table.specs.Chains.{AreGrouped, AreSizes, IsArranged, IsChain, IsCovered, IsInPlace}
pub use Rattle.hashlink_table.specs.Chains.{IsLink, IsLinked, IsLinkedBut, IsSound, IsThreaded, Ranks}
pub use Rattle.hashlink_table.specs.Chains.{SameMasks, SameNodes, bucket_in, cell_at, chain_at, chain_of}
pub use Rattle.hashlink_table.specs.Chains.{contents}
pub use Rattle.hashlink_table.specs.Chains.{first_at, guest_at, guest_of, kept_at, links_of}
pub use Rattle.hashlink_table.specs.Chains.{mask_at, next_at, nodes_in, own_at, own_of, stored_in, with_node}
pub use Rattle.hashlink_table.specs.Chains.{some_kept}
pub use Rattle.hashlink_table.specs.Slots.{AreSlots, Grid, IsStored, IsTagged, Row, bare_grid, cells_in}
pub use Rattle.hashlink_table.specs.Slots.{cleared, emptied, empty_record, grid_in, kept_may_be}
pub use Rattle.hashlink_table.specs.Slots.{lanes_of, may_be, slot}
pub use Rattle.hashlink_table.specs.Slots.{with_guest, with_kept, with_next, without_kept}
pub use Rattle.hashlink_table.specs.Records.{Record, record_of, free_mark, has_guest, has_own, heads_in}
pub use Rattle.hashlink_table.specs.Records.{is_free, is_guest, is_taken, mark_of, marks_in}
pub use Rattle.hashlink_table.specs.Stored.{bare_cell, mask_bit_of, no_guests, tag_of, with_guest_in}
pub use Rattle.hashlink_table.specs.Contents.{AreBuckets, CanAsk, Contents, agreeing, len_of}
pub use Rattle.hashlink_table.specs.declared.{hashed.Hashed.Hashed, store.cell.Cell.Cell}
pub use Rattle.hashlink_table.specs.declared.store.{cell.TheConstants.END, head.Head.Head}
pub use Rattle.hashlink_table.specs.declared.store.{mark.Mark.Mark, slots.Rest.Rest}
pub use Rattle.std.proofs.Common.{Bool, Global, IsSome, List, None, Option, Some, Vec, [], ap, append_assoc}
pub use Rattle.std.proofs.Common.{arith, bit_and, cond, count_by, drop, eqb, false, get_or, inl, inr, is_some}
pub use Rattle.std.proofs.Common.{length, ltb, map, max, not, refl, replicate, rules, set, slice_index_or}
pub use Rattle.std.proofs.Common.{subst, suc, sym, take, true, vec_capacity, vec_len, w8, zero, ℕ, ◌%◌, ◌*◌}
pub use Rattle.std.proofs.lemmas.Bool.{cases_eq, cases_lt, eq-eqb, eqb-true, false≢true, le-ltb, lt-ltb}
pub use Rattle.std.proofs.lemmas.List.{append-nil, drop-drop, drop-map, get_or-append_right, get_or-drop}
pub use Rattle.std.proofs.lemmas.List.{get_or-map, get_or-set_other, get_or-set_same, get_or_append_left}
pub use Rattle.std.proofs.lemmas.List.{get_or_at, get_or_default, get_or_past, get_or_push, get_or_read}
pub use Rattle.std.proofs.lemmas.List.{length-append, length-drop, length-map, length-replicate, length-set}
pub use Rattle.std.proofs.lemmas.List.{length-take, length_push, map-append, map-id, map-set, map_push}
pub use Rattle.std.proofs.lemmas.List.{nil_from_length, set-append_left, set-get_or, set_at, take-append-drop}
pub use Rattle.std.proofs.lemmas.List.Elements.{All-append, All-get_or, All-head, All-map, All-nil, All-set}
pub use Rattle.std.proofs.lemmas.List.Elements.{All-tail, Contains-append_cases, Contains-append_left}
pub use Rattle.std.proofs.lemmas.List.Sorted.{IsPermutation-append_left, IsPermutation-append_right}
pub use Rattle.std.proofs.lemmas.List.Sorted.{IsPermutation-cons, IsPermutation-middle, IsPermutation-refl}
pub use Rattle.std.proofs.lemmas.List.Sorted.{IsPermutation-sym, IsPermutation-to_front, IsPermutation-trans}
pub use Rattle.std.proofs.lemmas.Simd.{bitmask_splat, chunk-drop, get_or-chunk, length-chunk, map-map}
pub use Rattle.std.proofs.Common.{◌++◌, ◌+◌, ◌-◌, ◌/◌, ◌<◌, ◌^◌, ◌∙◌, ◌∷◌, ◌≡◌, ◌≢◌, ◌≤◌, ◌⊎◌}
pub use Rattle.std.proofs.Math.{Arith.mod-mul, Nat.{mod-mod_of_dvd, pow-succ'}, Seq.map-set_same}
pub use Rattle.std.proofs.lemmas.{Bool.{ltb-false, ltb-true, ne_eqb, not-false, true≢false}, Option.same_Some}
pub use Rattle.std.proofs.lemmas.{Grind.common_steps, List.{take-map, take_all, take_more, with_items_is}}
pub use Rattle.std.proofs.lemmas.List.{Elements.Contains-append_right, Sorted.length_permutation}
pub use Rattle.std.proofs.lemmas.List.Sums.{count_by-le-length, sum_by-append, sum_by-cons, sum_by-set}
pub use Rattle.std.proofs.lemmas.{Nat.{and_mask, mod_below, pow-add, pow_pos}, Nat.Gcd.dvd_of_mod-eq-zero}
pub use Rattle.std.proofs.lemmas.Simd.{none_from_empty_mask, splat_is_map, trailing_mask_l}
pub use Rattle.std.specs.Int.{IsPowerOfTwo, bit_at}
pub use Rattle.std.specs.List.{All, prefix_len}
pub use Rattle.std.specs.Simd.Lanes.{chunk}
pub use Rattle.std.specs.Vec.{with_items}
pub use Rattle.std.specs.Prelude.{Contains, IfSome, IsPermutation, is_none}
pub use lib.{Bits.and_high, Count.count_trailing_zeros, Lanes.mask_l, Pow.{mod-pow-add, shr-shr}}
pub use native.Mathlib.Numerals.{one-add}
