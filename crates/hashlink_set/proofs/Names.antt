-- What many proofs of this crate import.
pub use Rattle.hashlink_core.proofs.Calls.{on_err}
pub use Rattle.hashlink_map.proofs.Names.{AcceptsAll, Bor, Goes-dropped, Goes-spent_ref, Grows, Is}
pub use Rattle.hashlink_map.proofs.Names.{IsEquivalence, Lasts, Laws, Lfts, MutRef, NamedLft, RattleType}
pub use Rattle.hashlink_map.proofs.Names.{SProp, ShrRef, Stays, Tuple, UnwrapsOrElse, Val, Valss, WpFn}
pub use Rattle.hashlink_map.proofs.Names.{a_type, addr, alive, alloc_all, and_then, as_fields, bounded}
pub use Rattle.hashlink_map.proofs.Names.{calls_at, copy_shared, dcons, dnil, emp, ent, enter, entries_of}
pub use Rattle.hashlink_map.proofs.Names.{fact, fact_i, fld, framed, free_all, get, get_in, heard, id⊢}
pub use Rattle.hashlink_map.proofs.Names.{inst_fn, lands_as, last_of, lasts, layout, leaves, look_at}
pub use Rattle.hashlink_map.proofs.Names.{mut_Tells, mut_ref_to, mut_vals, named, no, no_more, nothing}
pub use Rattle.hashlink_map.proofs.Names.{of_field, of_list, of_opd, on_entry, only, param, param_laws}
pub use Rattle.hashlink_map.proofs.Names.{pass_all, peeks, plain, proved_at, returns, sem, sep, sets, shows}
pub use Rattle.hashlink_map.proofs.Names.{shr_ref_copy, shr_ref_laws, state_of, stay_dropped, stop, sub}
pub use Rattle.hashlink_map.proofs.Names.{tables, through, triple_of, ty_ptr, types_at, vptr, vstruct}
pub use Rattle.hashlink_map.proofs.{InTurn.accepts_another, PairValues.{value_of, valued}}
pub use Rattle.hashlink_map.proofs.Names.{walk_of, whole, ◌⊑◌}
pub use Rattle.hashlink_model.specs.Sets.{GetsOrInserts, SetInserts, SetReplaces, SetState, elements_of}
pub use Rattle.hashlink_model.proofs.{LazyWalks.left_to_give-at_most, SetElements.{set_inserts, set_replaces}}
pub use Rattle.hashlink_model.specs.{Algebra.{at_most_both, first_passing}, Compare.elements_eq, Steps.Moves}
pub use Rattle.hashlink_model.specs.{Retain.RetainsInOrder, Sets.{put_element, stored_element}}
pub use Rattle.hashlink_set.specs.{Elements.elements_in, Made.GetsOrMakes}
pub use Rattle.hashlink_set.specs.SetLends.{LastOrRefused, StaysAsItWas, as_seen}
pub use Rattle.hashlink_set.specs.Walks.{lacks, sifts, symmetric_difference_rest, union_rest}
pub use Rattle.std.proofs.Common.{Bool, Err, List, None, Ok, Option, Result, Some, [], ap, ap₂, arith, cond}
pub use Rattle.std.proofs.Common.{false, filter, is_some, length, map, not, option_map, refl, rules, subst}
pub use Rattle.std.{proofs.Common.{sym, true, ℕ, ◌++◌, ◌-◌, ◌^◌, ◌∙◌, ◌∷◌, ◌≡◌, ◌≤◌}, specs.Map.keys_of}
pub use Rattle.std.{proofs.lemmas.Map.Made.is_some-lookup, specs.Fn.FnOnceReturnsAt}
pub use Rattle.std.specs.{Iterator.{EndsFrom, UpTo, at_most, items_left}, List.{AllZip, find}}
pub use Rattle.std.specs.{Map.Iter.{TakesFirst, deref}, Set.{is_member, remove_key}}
pub use Rattle.std.specs.Prelude.{IfErr, IfOk, IfSome, IsSome, OnOk, eqb, option_copied}
pub use denote.Struct.Field.{shr_ref_field}
pub use types.Kit.{await, !, by, drop, feq_l, fjoin, fpick, fsplit, join, keep, later, move, pick, qed, raw}
pub use types.Kit.{rewrite, some, split, use0, use1, ‵, ◌$◌, ◌∵◌, ◌⊛◌}
