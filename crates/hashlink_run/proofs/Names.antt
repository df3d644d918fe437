-- What many proofs of this crate import.
pub use Rattle.hashlink_core.specs.Keyed.{entries_of}
pub use Rattle.hashlink_history.{proofs.Peaks.within_the_peak, specs.Peak.{Length, Passed, PassesInTurn}}
pub use Rattle.hashlink_lru.specs.Cached.{empty_cache}
pub use Rattle.hashlink_model.{proofs.Finds.lookup_is, proofs.Splits.none_from_lookup, specs.Entries.place_of}
pub use Rattle.hashlink_model.proofs.KeptNodes.{kept-inserts, kept-moves, kept-pops_front, kept-removes_key}
pub use Rattle.hashlink_model.specs.Cache.{CacheGets, CacheInserts, CacheState, CacheUses, EvictsFront}
pub use Rattle.hashlink_model.specs.{Cursor.CursorState, MapState.{KeepsNodes, MapState, node_count}}
pub use Rattle.hashlink_model.specs.Walk.{first_of}
pub use Rattle.hashlink_run.specs.{CacheCalls.{EventStep, use_of}, CallReplies.{insert_reply, is_refused}}
pub use Rattle.hashlink_run.specs.{CacheStep.{CacheRun, CacheStep}, Reads.{CallableOn, ClosureSays, Replies}}
pub use Rattle.hashlink_run.specs.{Chain.{Answered, Chain, after, replies_of, state_after}, Run.reply_total}
pub use Rattle.hashlink_run.specs.{CursorSteps.{CursorStepped, CursorWalks, first_place}, Step.Step}
pub use Rattle.hashlink_run.specs.EntrySteps.{EntrySteps, OccupiedStep, VacantStep}
pub use Rattle.hashlink_run.specs.declared.{cache_commands.CacheCommand.CacheCommand, replies.Reply.Reply}
pub use Rattle.hashlink_run.specs.declared.commands.{CursorStep.CursorStep, EntryStep.EntryStep}
pub use Rattle.hashlink_run.specs.declared.replies.Reply.TheVariants.{Refused, Seen}
pub use Rattle.std.proofs.Common.{Bool, Err, List, MatchOption, MatchResult, None, Ok, Option, Result, Some}
pub use Rattle.std.proofs.Common.{ap, append-nil, append_assoc, ap₂, arith, drop, false, inl, inr, length}
pub use Rattle.std.proofs.Common.{map, refl, rules, slice_get, subst, suc, sym, take, true, vec_capacity}
pub use Rattle.std.proofs.Common.{vec_len, zero, ℕ, [], ⊎_elim, ◌++◌, ◌+◌, ◌-◌, ◌<◌, ◌∙◌, ◌∷◌, ◌≡◌, ◌≤◌}
pub use Rattle.std.{proofs.lemmas.Option.same_Some, specs.Map.{lookup, lookup_entry}, specs.Option.option_map}
pub use Rattle.std.specs.Vec.Iter.{into_iter_items}
