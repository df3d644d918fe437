-- The names that many proofs of this crate import.
pub use Rattle.hashlink_core.proofs.Edits.{IsEntries-inserted, IsEntries-removed, at-element, drop-at}
pub use Rattle.hashlink_core.proofs.Edits.{element-at, from-mapped, from_part, insert-map, length-inserted}
pub use Rattle.hashlink_core.proofs.Edits.{length-removed, mapped-at, moved-map, moved_at-is, none-inserted}
pub use Rattle.hashlink_core.proofs.Edits.{none-removed, passes-at, place_or_end-cons, place_or_end-most}
pub use Rattle.hashlink_core.proofs.Places.{IsNodeAt, around, following-within, keys-renewed, left-at}
pub use Rattle.hashlink_core.proofs.Places.{moves_after-at, moves_before-at, node-at, place-renewed}
pub use Rattle.hashlink_core.proofs.Places.{place_number-renewed, put_before-at, renewed-holds, renewed_at-is}
pub use Rattle.hashlink_core.specs.Keyed.{EqualsKeyAt, HoldsKey, HoldsMatch, IsKeyed, Keyed, PassesAt}
pub use Rattle.hashlink_core.specs.Keyed.{entries_of, keyed, nodes_of, pair_with_key, pair_with_value}
pub use Rattle.hashlink_core.specs.Steps.{AddsNode, GrowsRoom, KeepsKeys, KeepsPlace, MovesNode, RemovesNode}
pub use Rattle.hashlink_core.{proofs.Edits.{remove-map, remove_entry-at}, specs.KeyedLends.with_value_at}
pub use Rattle.hashlink_core.proofs.Places.{same-number, same-place, set_value-at}
pub use Rattle.hashlink_core.specs.{Keyed.{pairs_in, seen_as, state_of}, Steps.{SetsNodeKey, WritesNode}}
pub use Rattle.hashlink_core.specs.{Places.{IsPlaceAt, place_number, renewed_at}, Telling.Tells}
pub use Rattle.hashlink_core.specs.Tied.{IsInStep, hash_with, numbered_nodes, short}
pub use Rattle.hashlink_model.proofs.ByPlace.{moved_at-place, moved_at-put, remove-place, set_value_at-here}
pub use Rattle.hashlink_model.specs.Entries.{IsEntries, IsKeyTest, moved_at, place_left, place_of}
pub use Rattle.hashlink_model.specs.Steps.{KeepsOnly, MovesMatchAndWrites, RemovesKey, RemovesMatch, Replaces}
pub use Rattle.hashlink_model.{proofs.Afterwards.lookup-moved, specs.Many.{AcceptsAll, InsertsPair, StopsAt}}
pub use Rattle.hashlink_model.proofs.{ByPlace.set_value_at-place, Places.{place_of_its_key, slice_get_here}}
pub use Rattle.hashlink_model.proofs.{Distinct.{IsEntries-nil, each-left, none_equal}, Puts.put-absent}
pub use Rattle.hashlink_model.specs.{Cursor.{following_place, preceding_place}, Entry.{key_at, value_at}}
pub use Rattle.hashlink_model.specs.Entries.{place_or_end, set_key_at, set_value_at}
pub use Rattle.hashlink_model.specs.Steps.{Shrinks, WritesEntry, with_match_value, with_value_of}
pub use Rattle.hashlink_nodes.specs.Ring.{Holds, IsPlace, MovesAfter, MovesBefore, Ring, held, last_node}
pub use Rattle.hashlink_nodes.specs.Ring.{next_place, node_after, node_before, pair_of, prev_place}
pub use Rattle.hashlink_nodes.specs.{declared.entry.Entry.Entry, Node.{eq-same_node, same_node}}
pub use Rattle.hashlink_nodes.specs.Node.{same_node_equiv}
pub use Rattle.hashlink_nodes.specs.Ring.{put_before, ring, with_key, with_value}
pub use Rattle.hashlink_nodes.specs.declared.node.Node.{Node}
pub use Rattle.hashlink_table.specs.Contents.{Contents, Keeps, len_of}
pub use Rattle.std.proofs.Common.{Bool, Err, List, None, Ok, OnErr, Option, Result, Some, [], ap, ap₂, arith}
pub use Rattle.std.proofs.Common.{cond, drop, eq-eqb, eqb, eqb-true, false, inl, inr, length, map, min, refl}
pub use Rattle.std.proofs.Common.{rules, subst, suc, sym, take, true, zero, ℕ, ⊎_elim, ◌%◌, ◌++◌, ◌+◌, ◌-◌}
pub use Rattle.std.specs.Prelude.{Contains, IfNone, IfSome, IsPermutation, IsTrue, insert, is_some, remove}
pub use Rattle.std.proofs.{Common.{◌<◌, ◌^◌, ◌∙◌, ◌∷◌, ◌≡◌, ◌≢◌, ◌≤◌, ◌⊎◌}, Math.Seq.{take-length, take-suc}}
pub use Rattle.std.proofs.{iter.runs.Sources.{from_back, from_front}, lemmas.Bool.{cases_lt, true≢false}}
pub use Rattle.std.proofs.lemmas.List.{get_or-map, length-append, length-map, map-append}
pub use Rattle.std.{proofs.lemmas.Map.{NonePasses, lookup-none, lookup-set_value}, specs.Borrow.{Bor, MutBor}}
pub use Rattle.std.proofs.lemmas.Map.Entries.{length-keys_of, length-values_of, lookup_from_place}
pub use Rattle.std.proofs.lemmas.Map.Made.{Contains-tail, keys_of-map_values, lookup-map_values}
pub use Rattle.std.proofs.lemmas.Map.Views.{Contains-from_lookup, lookup-from_Contains}
pub use Rattle.std.proofs.lemmas.Option.{get_or_from_slice_get, none-some, slice_get_cases, slice_get_within}
pub use Rattle.std.specs.{Cmp.IsEquivalence, Fn.{Called, FnReturnsAt, Mut, Shared}, List.{IsDistinct, fold}}
pub use Rattle.std.specs.Map.{keys_of, lookup, lookup_entry, remove_entry, set_value, values_of}
pub use Rattle.std.specs.{Map.Calls.{CallableOnEachPair, CalledAtPair, TakesPair}, Option.option_map}
pub use Rattle.std.specs.Map.Iter.{ShowsInOrder, ShowsInReverse, TakesFirst, TakesLast, deref_pair}
pub use Rattle.std.specs.Prelude.{slice_get, unwrap_or}
