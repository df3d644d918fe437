-- The names that many proofs of this crate import.
pub use Rattle.hashlink_model.specs.Cache.{CacheGets, CacheInserts, CacheState, cache_put, cache_use}
pub use Rattle.hashlink_model.specs.Entries.{IsEntries, IsKeyTest, extended, moved, moved_at, place_left}
pub use Rattle.hashlink_model.specs.Entries.{place_of, place_or_end, place_without, put, set_key_at}
pub use Rattle.hashlink_model.specs.Steps.{Clears, KeepsOnly, Moves, MovesMatch, PopsBack, PopsFront}
pub use Rattle.hashlink_model.specs.{Algebra.{difference_of, intersection_of}, Cache.last_entries}
pub use Rattle.hashlink_model.specs.{Compare.{elements_eq, entries_eq}, Cursor.place_kept, Many.InsertsPair}
pub use Rattle.hashlink_model.specs.{Entries.{set_value_at, stored_key, without}, Steps.RemovesKey}
pub use Rattle.hashlink_model.specs.MapState.{Changes, Inserts, MapState, node_count}
pub use Rattle.hashlink_model.specs.Sets.{pairs_of, put_element, replaced, stored_element}
pub use Rattle.std.proofs.Common.{Bool, Err, List, None, Ok, Option, Result, Some, [], ap, append-nil}
pub use Rattle.std.proofs.Common.{append_assoc, ap₂, arith, cond, drop, false, filter, inl, inr, is_some}
pub use Rattle.std.proofs.Common.{le_refl, length, length-drop, length-take, lt-ltb, min, nat_eq, not}
pub use Rattle.std.proofs.Common.{option_to_list, refl, slice_get, subst, suc, sym, take, true, zero, ℕ, ◌&&◌}
pub use Rattle.std.proofs.Common.{◌++◌, ◌+◌, ◌-◌, ◌<◌, ◌||◌, ◌∙◌, ◌∷◌, ◌≡◌, ◌≤◌, ◌⊎◌}
pub use Rattle.std.proofs.lemmas.{Bool.Decides.nat_tests, List.{length-append, take-append-drop}}
pub use Rattle.std.proofs.lemmas.List.{Edits.insert_end, Elements.recursion_from_All}
pub use Rattle.std.proofs.lemmas.{Map.{NonePasses, keys-set_value, length-set_value}, Map.Made.is_some-lookup}
pub use Rattle.std.proofs.lemmas.Map.{Entries.length-keys_of, Steps.set_value_same}
pub use Rattle.std.{proofs.lemmas.Option.{none-some, same_Some}, specs.Cmp.IsEquivalence}
pub use Rattle.std.specs.{List.{AllByRecursion, AllZip, cons_option, find}, Map.Iter.TakesFirst}
pub use Rattle.std.specs.Map.{keys_of, lookup, lookup_entry, lookup_key, remove_entry, set_value}
pub use Rattle.std.specs.{Option.{option_map, option_map_or}, Set.{is_member, swap_key}}
pub use Rattle.std.specs.Prelude.{MatchOption, insert, remove, unwrap_or}
