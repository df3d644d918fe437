-- The names that many proofs of this crate import.
pub use Rattle.hashlink_core.proofs.AtKeyNode.{added, guard-number, is_some-map, lent, lent-moved}
pub use Rattle.hashlink_core.proofs.Places.{IsNodeAt, around, following-within, node-at, place_number-renewed}
pub use Rattle.hashlink_core.proofs.Steps.{lookup-place, lookup-unplaced, lookup_entry-place}
pub use Rattle.hashlink_core.proofs.Steps.{lookup_entry-unplaced, none_passes_from_place, some_from_part}
pub use Rattle.hashlink_core.specs.Keyed.{EqualsKeyAt, HoldsKey, IsKeyed, Keyed, entries_of, pair_with_value}
pub use Rattle.hashlink_core.proofs.AtKeyNode.{moved-found, moved-value, refused, stored, stored-value}
pub use Rattle.hashlink_core.proofs.{Calls.on_err, InTurn.accepts_another, Keeping.at-guard, Steps.then_moves}
pub use Rattle.hashlink_core.proofs.Holding.{at-node, equals-stored, holds-at, holds_key-at, number-at}
pub use Rattle.hashlink_core.proofs.{Mapped.values-renewed_value, Neighbours.before-suc, Places.renewed_at-is}
pub use Rattle.hashlink_core.proofs.Walk.{in-order, in-reverse, slice_get-drop, within-holds}
pub use Rattle.hashlink_core.specs.{Keyed.state_of, KeyedLends.{node_row, with_value_at}, Walk.StandsBetween}
pub use Rattle.hashlink_core.specs.Places.{Holds, IsPlace, IsPlaceAt, Node, place_number, renewed_at}
pub use Rattle.hashlink_core.specs.Steps.{AddsNode, GrowsRoom, MovesNode}
pub use Rattle.hashlink_map.specs.RawEntry.{RawIsWritten, raw_map, raw_occupied_map, raw_occupied_state}
pub use Rattle.hashlink_map.specs.Standing.{IsPlace-prop, StaysHeld, still_holds, still_holds_match}
pub use Rattle.hashlink_map.specs.WritingWalk.{StandsIn, WritesSoFar, WritingWalk, after_back, after_front}
pub use Rattle.hashlink_map.specs.{Cloning.{ArePairClones, IsOfPairClones}, declared.iter_mut.IterMut.IterMut}
pub use Rattle.hashlink_map.specs.{Cursor.{cursor_node, lent_pair}, Standing.{still_placed, still_standing}}
pub use Rattle.hashlink_map.specs.{EntryLends.PutsLast, RawEntry.{raw_pair, raw_place, raw_state, raw_with}}
pub use Rattle.hashlink_map.specs.{Extending.TakesItems, declared.entry.occupied.OccupiedEntry.OccupiedEntry}
pub use Rattle.hashlink_map.specs.Indexed.{HasKey, with_value_at_key}
pub use Rattle.hashlink_map.specs.RawLends.{LendsPairOf, RawLendsForGood, StandsLast}
pub use Rattle.hashlink_map.specs.Reading.{GivesAll, GivesSome, ReadsAll, ReadsSome}
pub use Rattle.hashlink_map.specs.WritingWalk.{last_place, walk_in, walk_rest, walk_with, writing_walk}
pub use Rattle.hashlink_map.specs.declared.{cursor.CursorMut.CursorMut, places_left.PlacesLeft.PlacesLeft}
pub use Rattle.hashlink_map.specs.declared.raw_entry.occupied.RawOccupiedEntryMut.{RawOccupiedEntryMut}
pub use Rattle.hashlink_model.proofs.ByPlace.{length-set_value_at, moved_at-last, moved_at-put}
pub use Rattle.hashlink_model.specs.Entries.{IsEntries, extended, moved_at, place_left, place_of}
pub use Rattle.hashlink_model.specs.MapState.{AddsEntry, Grows, Inserts, MapState, MovesAt, PutsEntry}
pub use Rattle.hashlink_model.proofs.{ByPlace.{set_value_at-here, set_value_at-place}, Clones.clone_is_equal}
pub use Rattle.hashlink_model.proofs.{Cursors.following_place-guard, Extends.extended-own}
pub use Rattle.hashlink_model.proofs.{Finds.{lookup_is, lookup_key_is}, InTurn.accepts_entries}
pub use Rattle.hashlink_model.proofs.Places.{place_of_its_key, slice_get_here, split_at}
pub use Rattle.hashlink_model.proofs.Puts.{put-absent, put_at_its_place, put_back_absent}
pub use Rattle.hashlink_model.specs.Compare.{entries_eq, entries_hash_input}
pub use Rattle.hashlink_model.specs.Cursor.{CursorState, following_place, preceding_place, with_value_in}
pub use Rattle.hashlink_model.specs.Entries.{place_or_end, put, set_value_at, stored_key}
pub use Rattle.hashlink_model.specs.Entry.{RawEntryState, VacantInserts, key_at, value_at}
pub use Rattle.hashlink_model.specs.Many.{AcceptsAll, InsertsPair, MadeFrom, StopsAt, StopsAtLast}
pub use Rattle.hashlink_model.specs.MapState.{RefusesEntry, RoomFor, empty_map, map_state, with_value}
pub use Rattle.hashlink_model.specs.Steps.{PopsBack, PopsFront, RemovesMatch, Replaces, with_value_of}
pub use Rattle.hashlink_model.specs.Walk.{after_first_of, before_last_of, first_of, last_of}
pub use Rattle.std.proofs.Common.{Bool, List, None, Option, Some, [], ap, append-nil, append_assoc, ap₂}
pub use Rattle.std.proofs.Common.{arith, cond, false, fold, get_or, is_some, le_refl, length, length-append}
pub use Rattle.std.proofs.Common.{length-take-le, lit<, map, refl, rules, subst, suc, sym, take, true}
pub use Rattle.std.specs.Prelude.{Contains, Err, IfErr, IfNone, IfOk, IfSome, IsOk, IsSome}
pub use Rattle.std.specs.Prelude.{MatchOption, MatchResult, Ok, OnErr, OnOk, OnSome, Result, insert, remove}
pub use Rattle.std.proofs.Common.{true≢false, zero, ℕ, ◌++◌, ◌+◌, ◌-◌, ◌<◌, ◌∙◌, ◌∷◌, ◌≡◌, ◌≢◌, ◌≤◌}
pub use Rattle.std.{proofs.RcSteps.{word, word-Good, word_ty}, specs.declared.iter.Map.Map}
pub use Rattle.std.proofs.{VecSteps.Element.{Some-of, none_of}, raw_atomic.Walks.{leaves, proved_at}}
pub use Rattle.std.proofs.{alloc.Shapes.{after, arm_body, head}, iter.runs.Sources.{as_is, as_is_back}}
pub use Rattle.std.{proofs.cell.Inside.Good, specs.Cmp.IsEquivalence, specs.Fn.{Called, Mut}}
pub use Rattle.std.{proofs.lemmas.List.length-map, specs.Map.{lookup, lookup_entry, remove_entry, values_of}}
pub use Rattle.std.proofs.lemmas.{Map.Entries.length-values_of, Option.{none-some, same_Some, slice_get-map}}
pub use Rattle.std.specs.{Borrow.{Bor, MutBor, follows_if}, Option.{UnwrapsOrElse, option_copied, option_map}}
pub use Rattle.std.specs.{Iterator.{Drains, DrainsIf, Yields, YieldsThen}, Prelude.{slice_get, unwrap_or, ⊤}}
pub use Rattle.std.specs.Map.Iter.{GivesInOrder, GivesInReverse, TakesFirst, TakesLast, deref_pair}
pub use base.Fml.{Fml, Lft, flft, fres, fsep, ftrue}
pub use base.Logic.{SProp, comm∗, emp, emp∗, ent, ex, fst∗, id⊢, mono_r, sep, via}
pub use contract.{BorrowLft.◌⊑◌, Lifetimes.{AllOutlive, Lfts, Outlives, Shares, toks}, Monad.{fact, fact_i}}
pub use contract.Running.{Running, tables}
pub use denote.{Builtin.u64, Exit.{Last, left, no, rest, yes}, Follow.follows_then}
unfoldable pub use denote.Follow.{follows_by, such_by}
pub use denote.{Laws.{Are, Is, Ises, Typed, shows}, Param.{bounded, layout, param}, Shadow.makes_shadow}
pub use denote.Param.{Laws.{Laws, of_field, param_laws, row_shared}, Shared.{copy_shared, mut_ref_shared}}
pub use denote.{RattleType.{RattleType, Valss, flat, owns}, RawPtr.{Ptr, RawPtr, ptr_val}, Struct.Props.props}
pub use denote.{Ref.{MutRef, NamedLft, ShrRef, mut_Tells, mut_vals, shr_vals}, Triple.End.Kepts}
pub use denote.{Signature.{Slot, mut_ref_to, named_lft, plain, types_at}, Steps.{facts, heard, nothing, only}}
pub use denote.Steps.{peeks}
pub use denote.Struct.{Laws.{mut_ref_laws, shr_ref_copy, shr_ref_laws}, Struct.{Shape, Struct, as_fields}}
pub use denote.{Struct.Tuple.{Tuple, tuple_laws}, Triple.Call.{calls_at, calls_from}, Triple.Table.framed}
pub use denote.Triple.{Clauses.{Clauses, Ended, Lasts, closing, lasts}, Entry.{Args, alive, on_entry}}
pub use denote.Triple.Spec.{Meets, triple_of}
pub use denote.Triple.Walked.{AllGo, Fit, Goes-dropped, Goes-spent_ref, Stays, has_of, stay_dropped, walk_of}
pub use mir.Syntax.{Callee, Dict, Fn, Kind, Sym, Ty, a_type, addr_of, aggregate, arm, assign, call, copy}
pub use mir.Syntax.{dcons, deref, dnil, erased, field, imm, int, local, mut, named, no_default, place, return}
pub use mir.Syntax.{rv_opd, seq, switch, tcons, tnil, ttcons, ttnil, ty_enum, ty_int, ty_ptr, ty_ref}
pub use mir.Syntax.{ty_struct}
pub use mir.{MapTy.inst_fn, Syntax.{value_local, variant, w64, w8}, Val.{Val, of_list, vint, vptr, vstruct}}
pub use prog.{Model.Model, Wp.{Closed, Wp, WpFn, after_seq}}
pub use seplogic.Ra.Ura.{Ura}
pub use types.ByLocal.{alloc_all, env, free_all, get, get_in, get_tag, lands_as, look_at, pass_all, sets}
pub use types.{ByLocal.{sets_last, through}, Logic.{Logic, sem}, Match.{in_variant, live, vrt}}
pub use types.Part.{agg, sub, whole}
pub use types.Run.{addr, and_then, enter, exec, first, fld, lit, no_more, of_opd, returns, stop, switches_on}
