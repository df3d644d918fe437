-- The names that many proofs of this crate import.
use Rattle.hashlink_nodes.specs
pub use Rattle.std.proofs.Common.{Bool, Bor, IfSome, IsNone, IsSome, List, MutBor, None, Option, Some, T, []}
pub use Rattle.std.proofs.Common.{ap, append-nil, append_assoc, arith, cond, false, is_some, length}
pub use Rattle.std.proofs.Common.{length-append, length-drop, lit<, refl, slice_get, subst, suc, sym, true}
pub use Rattle.std.proofs.lemmas.Map.Keys.{IsDistinct-IsPermutation, IsDistinct-cons, IsDistinct-head}
pub use Rattle.std.proofs.Common.{unwrap_or, zero, ℕ, ◌&&◌, ◌++◌, ◌+◌, ◌-◌, ◌<◌, ◌^◌, ◌∙◌, ◌∷◌, ◌≡◌}
pub use Rattle.std.proofs.RcSteps.{Good, word, word-Good, word_had, word_made}
pub use Rattle.std.proofs.{alloc.Calls.{Al, Goes-blank, handle_tells}, raw_atomic.Walks.{leaves, proved_at}}
pub use Rattle.std.proofs.lemmas.{Map.{length-set_value, lookup-set_value}, Map.Keys.IsDistinct-tail}
unfoldable pub use Rattle.std.specs.List.{IsDistinct}
pub use Rattle.std.specs.Map.{keys_of, lookup, lookup_entry, remove_entry, set_value}
pub use base.Fml.{Fml, GName, Incl, Incl-trans, Lft, fat, flft, froom, fsep, ftrue, fwand}
pub use base.Fraction.{full_share}
pub use base.Logic.{SProp, apply∗, emp, ent, ex_i, fst∗, guard_i, id⊢, never, never_e, sep, snd∗, via, wand}
pub use borrow.Table.OneValue.{part_in, part_out}
pub use contract.BorrowLft.{meet_⊑_left, ⊑_static, ◌⊑◌}
pub use denote.Memory.{cell_at, lone, mem, part_at, pointee}
unfoldable pub use denote.Memory.{part_of}
pub use denote.Struct.Lending.{Lends, Lends-both, Lends-first, Lends-lies, Lends-nothing, Lends-said, lent_at}
pub use denote.{RattleType.{RattleType, RowLaws, Valss, owns}, Struct.Lending.{lent_at_shr_laws, of_Lends}}
pub use denote.RawPtr.{Ptr, RawPtr, block_ptr, in_a_block, lies_at, null_ptr, ptr_val, room_for, ◌+ₚ◌}
pub use denote.SharingLaws.{beside_shr_laws, nothing_shr_laws, said_shr_laws}
pub use denote.Signature.{Signature, Slot, mut_ref_to, plain, types_at}
pub use denote.Triple.Clauses.{Clauses, Ended, at_exit, closing}
pub use denote.Triple.Walked.{Goes-dropped, Goes-ref, Goes-spent_ref, Stays, stay_dropped, stay_ref, walk_of}
pub use mir.Syntax.{Callee, Fn, Ty, Tys, a_type, dnil, imm, impl, int_big, mut, named, tcons, tnil, ty_int}
pub use mir.Syntax.{ty_struct, w64}
pub use mir.Val.{Fits, Val, WT, has_ty, of_list, vcons, vint, vnil, vptr, vstruct, vunit}
pub use seplogic.Ra.Ura.{Ura}
pub use specs.Ownership.{Links, block_lent, block_owns, block_room, block_type, blocks_lent, blocks_own}
pub use specs.Ownership.{deed_owns, is_small, links_of, links_offset, number_of, number_offset, pair_lent}
pub use specs.Ring.{Entry, Holds, IsPlace, Ring, held, last_node, next_place, node_after, node_before}
pub use specs.Ring.{pair_of, prev_place, put_after, put_after_node, put_before, put_before_node, ring}
pub use specs.Ring.{with_key}
pub use specs.Kept.{Kept, alter, entry_in, kept, number_word, with_entry, with_links, with_pair}
pub use specs.Node.{eq-same_node, same_node, same_node-refl, same_node_equiv}
pub use specs.{Ownership.{pair_of as pair_place, pair_offset, pair_owns}, Ring.with_value}
pub use specs.Shape.{IsChain, IsLinked, IsRing, IsSound, SoundAt, entry_of, ring_at, ring_of}
unfoldable pub use specs.Shape.{entries_of, walk}
pub use specs.State.{Adds, AreThere, Blocks, Differs, Drops, GuardIs, MakesGuard, State, held_in, next_in}
pub use specs.State.{prev_in, set_at, state}
unfoldable pub use specs.State.{attached, detached, hold, store_next, store_prev}
pub use specs.{contracts.arena.Arena.{the_row as arena_row}, declared.link_writes.LinkWrites.LinkWrites}
pub use specs.{ArenaLends.altered, Pool.state_of, PoolLends.pool_with, declared.arena.Arena.Arena}
pub use specs.declared.{node.Node.Node, nodes.Nodes.TheInside.Inside, pool.link.Link.Link}
pub use types.Kit.{Goal, !, Item, Seq, Step, assume, at_ret, await, by, done, drop, feq_i, feq_l, fjoin}
pub use types.Kit.{fjoin3, flt_i, flt_l, fpack, fpick, fsplit, fsplit3, group, join, keep, later, mean, move}
pub use types.Kit.{now, pick, prop, qed, raw, rewrite, some, split, split3, step, suffices, upd, use0, use1}
pub use types.Run.{Opd, addr, and_then, assigns, assigns_last, blocks, enter, exec, first, fld, init, load}
pub use types.ByLocal.{alloc_all, env, free_all, get, get_in, is, look_at, pass_all, sets, sets_last, through}
pub use types.{Kit.{use2, ‵, ◌$◌, ◌∵◌, ◌⊛◌}, Logic.{Logic, sem}, Part.{agg, sub, whole}}
pub use types.Run.{look, no_more, of_opd, returns, stop, store, unit_lit, well_typed}
pub use Rattle.std.proofs.{ResultValues.and_tt, alloc.Shapes.after, lemmas.List.{map-append, nil_from_length}}
pub use Rattle.std.{proofs.lemmas.Map.Entries.length-keys_of, specs.Bool.then_some, specs.List.AllByRecursion}
pub use Rattle.std.specs.{Option.{option_map, option_map_or}, contracts.impls.GlobalAllocator.TheImpl.ghosts}
pub use contract.{Monad.{fact, fact_i, fact_use}, Running.{Running, tables}}
pub use denote.{Builtin.{One, RefOf, usize}, Exit.{no, yes}, Follow.{Part, follows, lends_Part}, Ref.MutRef}
pub use denote.{Opens.{hide, unhide}, Param.{layout, layouts, param}, Param.Laws.{Laws, param_laws}}
pub use denote.{Param.Shared.{Sharable, copy_shared}, Plain.{uint_in, uint_out}, Shares.Shares-less}
pub use denote.{Sharing.{ShrLaws, beside, said}, Steps.{closes, heard, nothing, opens}, Struct.Owning.shape}
pub use denote.Struct.{Field.usize-field, Laws.{field_copy, usize-copy}, Struct.{Struct, within}}
pub use denote.Triple.Spec.{Meets}
pub use mir.{MapTy.inst_fn, Raw.{raw as bare}}
pub use prog.{Model.{Model, rooms_at}, Wp.{Closed, Env, WpFn}}
