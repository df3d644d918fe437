-- What many proofs of this crate import.
pub use Rattle.hashlink_core.specs.Keyed.{entries_of}
pub use Rattle.hashlink_curve.specs.Curve.{Counted, Counts, CurveState, ListsFalls, falls_from, misses_at}
pub use Rattle.hashlink_curve.specs.Curve.{CanCount, IsTallied, reserved_uses, tallied}
pub use Rattle.hashlink_curve.specs.{Marks.{Marked, rows_of}, Recency.{GoesLast, MovesPast, Touches}}
pub use Rattle.hashlink_history.specs.History.{cache_misses_from, reuse_distance}
pub use Rattle.hashlink_model.{proofs.Splits.none_from_lookup, specs.Entries.{IsEntries, IsKeyTest}}
pub use Rattle.std.proofs.Common.{Bool, List, None, Some, [], ap, append_assoc, ap₂, arith, cond, drop, false}
pub use Rattle.std.proofs.Common.{get_or, inl, inr, length, length-append, nat_lt, refl, rules, set, subst}
pub use Rattle.std.proofs.Common.{subst₂, suc, sym, take, true, zero, ℕ, ◌&&◌, ◌*◌, ◌++◌, ◌+◌, ◌-◌, ◌/◌, ◌<◌}
pub use Rattle.std.proofs.Common.{vec_capacity, vec_len, ◌^◌, ◌||◌, ◌∙◌, ◌∷◌, ◌≡◌, ◌≤◌, ◌⊎◌}
pub use Rattle.std.proofs.{Math.Seq.drop-nil, lemmas.Bool.Decides.nat_tests, lemmas.Grind.get_or_default_zero}
pub use Rattle.std.{proofs.lemmas.List.{length-map, map-append}, specs.Cmp.IsEquivalence, specs.Map.keys_of}
pub use Rattle.std.proofs.lemmas.List.Sums.{sum_by-append, sum_by-cons, sum_by-set}
pub use Rattle.std.specs.{List.{AllZip, after_last, count_by, list_any}, Set.{is_member, unique_keys}}
pub use Rattle.std.specs.Prelude.{All, nat_eq, replicate, sum}
