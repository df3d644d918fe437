-- What many proofs of this crate import.
pub use Rattle.hashlink.proofs.{AtKey.{absent-written, written-key}, Walking.on-some}
pub use Rattle.hashlink.{proofs.CallerLemmas.{extended_by_all, extended_until}, specs.Many.InsertsPair}
pub use Rattle.hashlink.specs.{Keyed.{entries_of, state_of}, MapEntry.occupied_place, MapState.with_value}
pub use Rattle.hashlink.specs.{RawEntry.raw_place, Sets.elements_of}
pub use Rattle.hashlink_uses.specs.{Appearances.first_appearances, Merged.merged}
pub use Rattle.std.proofs.Common.{Bool, IfErr, IsOk, List, None, Some, [], ap, append_assoc, arith, drop}
pub use Rattle.std.proofs.Common.{is_none, is_ok, length, nat_eq, refl, rules, subst, sym, ◌%◌, ◌++◌, ◌+◌}
pub use Rattle.std.proofs.{Common.{◌∙◌, ◌∷◌, ◌≡◌}, lemmas.Cmp.nat_eq_equiv, lemmas.List.append-nil}
pub use Rattle.std.{proofs.lemmas.Result.{IfErr-weaker, IfOk-weaker, on_ok_weaker}, specs.List.list_any}
pub use Rattle.std.specs.Map.{keys_of, lookup}
