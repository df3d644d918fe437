-- Lemmas for callers' proofs about maps, sets and caches, which need only the dependency `hashlink`. Each is
-- in the crate of its container, which has it for those who take only that part, and passed on here. The
-- comment over each name states the goal that it closes. A state is `state_of` of a map or of a cache; a set
-- is its own state.
use Rattle.std.proofs.Common.{◌≡◌, ◌<◌, Bool, false, List, [], ◌∷◌, ◌++◌, length, Option, None, Some, Result}
use Rattle.std.proofs.Common.{Ok, Err, refl, sym, ap, subst, ◌∙◌, arith, true≢false, inl, inr, is_some, ◌⊎◌}
use Rattle.std.proofs.lemmas.List.Sums.{AllPass-from_list_all}
use Rattle.std.specs.List.{AllPass}
use Rattle.std.specs.Map.{lookup, lookup_entry}
use Rattle.std.specs.Prelude.{IsSome, slice_get}
use Rattle.hashlink_core.proofs.AtKeyNode.{is_some-map}
use Rattle.hashlink_model.proofs.Finds.{lookup_is}
use Rattle.hashlink_model.specs.MapState.{MapState}
use Rattle.hashlink_model.specs.Steps.{RemovesMatch}
use Rattle.hashlink_run.specs.CallReplies.{insert_reply, is_refused}
use Rattle.hashlink_run.specs.Chain.{Answered, replies_of}
use Rattle.hashlink_run.specs.Run.{LawfulRun, Run, ShownBy, TakesKeysWhereShorter, keeps_nodes}
use Rattle.hashlink_run.specs.Step.{KeepAsks, ReadBy, Step}
use Rattle.hashlink_run.specs.declared.commands.Command.{Command}
use Rattle.hashlink_run.specs.declared.commands.Command.TheVariants.{Insert, Remove}
use Rattle.hashlink_run.specs.declared.replies.Reply.{Reply}
use Rattle.hashlink_run.specs.declared.replies.Reply.TheVariants.{Value}
-- goal: `lookup`, or `lookup_entry`, at the key that was put, at another key, after a removal, and after a
-- move; the length after each; `IsEntries` after a move; a move as a put
pub use Rattle.hashlink_model.proofs.Afterwards.{lookup-put, lookup-put_same, lookup_entry-put_other}
pub use Rattle.hashlink_model.proofs.Afterwards.{lookup-without, lookup-without_same}
pub use Rattle.hashlink_model.proofs.Afterwards.{lookup_entry-without_other, lookup-moved, length-put_absent}
pub use Rattle.hashlink_model.proofs.Afterwards.{length-put_there, length-without_absent}
pub use Rattle.hashlink_model.proofs.Afterwards.{length-without_there, length-moved, IsEntries-moved}
pub use Rattle.hashlink_model.proofs.Afterwards.{moved-absent, moved-there}
-- goal: `IsEntries` after a put and a removal
-- goal: `put` written out: at the back, at the front, of an absent key, and at the place of a present key
pub use Rattle.hashlink_model.proofs.Puts.{IsEntries-put, IsEntries-without, put_back, put_front}
pub use Rattle.hashlink_model.proofs.Puts.{put_back_absent, put_at_its_place}
-- goal: the stored key equals the given one; equal keys have the same look-up
pub use Rattle.hashlink_model.proofs.Finds.{stored_key-equal, lookup-equal}
-- goal: a retain by a predicate leaves a filter
pub use Rattle.hashlink_model.proofs.Filtered.{retained_by_predicate}
-- goal: a cache's entries after `insert`, its result, and what a refused insert leaves; after a hit and a
-- miss of `get`
pub use Rattle.hashlink_model.proofs.CacheSteps.{inserts_entries as cache_inserts_entries}
pub use Rattle.hashlink_model.proofs.CacheSteps.{inserts_answer as cache_inserts_answer}
pub use Rattle.hashlink_model.proofs.CacheSteps.{inserts_refused as cache_inserts_refused, gets_hit}
pub use Rattle.hashlink_model.proofs.CacheSteps.{gets_miss}
-- goal: `lookup` at the key that a cache's insert inserted, and at another key; an insert when there is room
pub use Rattle.hashlink_model.proofs.Caches.{lookup-cache_put, lookup_entry-cache_put, cache_put-with_a_place}
-- goal: a set's elements after one was inserted last, written out
pub use Rattle.hashlink_model.proofs.SetElements.{put_element_back}
-- goal: the keys after a removal
pub use Rattle.hashlink_model.proofs.SetElements.{keys-remove_entry}
-- goal: what a cache's insert evicts, by the entry that `evicted_by` names
pub use Rattle.hashlink_lru.proofs.Evicting.{evicts_first, evicts_alone, evicts_none}
-- goal: facts about a list whose keys are pairwise unequal: its first entry and the others, keys equal to a
-- key that no entry has, and the entries around one
pub use Rattle.hashlink_model.proofs.Distinct.{IsEntries-cons, IsEntries-head, IsEntries-tail, each-left}
pub use Rattle.hashlink_model.proofs.Distinct.{none_equal, none_others}
-- goal: what a lookup finds, by the entry at its place or by the lack of one, and by `lookup_entry`
pub use Rattle.hashlink_model.proofs.Splits.{lookup-here, lookup-none}
pub use Rattle.hashlink_model.proofs.Finds.{lookup_is, lookup_key_is}
-- goal: the look-ups at every key, at the call's own test and at any other query, after a put, a removal, a
-- value that was written, and a move
pub use Rattle.hashlink_model.proofs.Updates.{updates-put, updates-removed, updates-written, keeps-moved}
-- goal: what any test of keys finds, a text among them
pub use Rattle.hashlink_map.proofs.LookUps.{lookup-tested, lookup-by_each, lookup-apart, is_text-tests}
pub use Rattle.hashlink_map.proofs.LookUps.{texts_apart, is_some-lookup_text, place-from_text}
pub use Rattle.hashlink_map.proofs.LookUps.{lookup-text_updated, lookup-text_kept}
-- goal: the look-ups after a write through what was lent, and after two changes; what is read at any text,
-- and of a value that was found or else made
pub use Rattle.hashlink_map.proofs.LookUps.{updates-lent, updates-twice, read-text_updated, read-text_same}
pub use Rattle.hashlink_map.proofs.LookUps.{read-found_or_made}
-- goal: what a retain leaves whose closure counts, or captures; the same for a set's elements
pub use Rattle.hashlink_map.proofs.Counting.{removes_first, RemovesFirst, filter-without_first}
pub use Rattle.hashlink_map.proofs.Counting.{without_first-keys}
pub use Rattle.hashlink_map.proofs.Retained.{retained_writing, retained_where, CallsLeave}
pub use Rattle.hashlink_set.proofs.AfterCalls.{set_retained_where}
-- goal: what a lending call ensures, for the result that it returned
pub use Rattle.hashlink_map.proofs.Walking.{on-some}
-- goal: a property of each entry after a change of a list of entries, of an entry that was found, and after a
-- call, whatever it returned
pub use Rattle.hashlink_map.proofs.EachEntry.{All-remove_entry, All-insert, All-put, All-moved_match}
pub use Rattle.hashlink_map.proofs.EachEntry.{All-set_value, All-set_key_at, All-at, All-found}
pub use Rattle.hashlink_map.proofs.EachEntry.{All-found_or_made, All-inserts}
pub use Rattle.hashlink_lru.proofs.AfterCalls.{All-cache_put, All-used}
-- goal: the entries and the look-ups after an insert, and after a write through what an entry or
-- `get_or_insert_with` lent
pub use Rattle.hashlink_map.proofs.Inserting.{inserts_absent, inserts_back, updates-inserts}
pub use Rattle.hashlink_map.proofs.Inserting.{updates-entered, updates-got}
-- goal: lists written out: by the first item; an item of a list with one more; look-ups in one list behind
-- another; a replace
pub use Rattle.hashlink_map.proofs.Listed.{by_first, slice_get-push, slice_get-pushed, lookup-append}
pub use Rattle.hashlink_map.proofs.Listed.{put_in_place, keys-put_in_place, lookup_entry-passes}
-- goal: after a replace of each of several pairs, by its value or by what it makes of the value that is there
pub use Rattle.hashlink_map.proofs.Combined.{lookup-replaced_each, combined, lookup-combined}
pub use Rattle.hashlink_map.proofs.Combined.{IsEntries-combined, is_member-combined, combined-written}
pub use Rattle.hashlink_map.proofs.Combined.{combined-added, combined-stopped, combined-not_added}
-- goal: entries whose values are seen through a function, such as containers that are values
pub use Rattle.hashlink_map.proofs.MappedValues.{lookup-map_values, is_some-map_values, keys_of-map_values}
pub use Rattle.hashlink_map.proofs.MappedValues.{set_value-map_values, remove_entry-map_values}
pub use Rattle.hashlink_map.proofs.MappedValues.{IsEntries-map_values, put_in_place-map_values}
-- goal: the entries after a move to the back, and after a write there; the keys after an insert at the back
pub use Rattle.hashlink_map.proofs.WrittenLast.{moved_last, moved_and_written, written_last}
pub use Rattle.hashlink_map.proofs.WrittenLast.{written_last-number, written_last-text, keys-put_back}
pub use Rattle.hashlink_map.proofs.WrittenLast.{put_back-number}
-- goal: `lookup` among the entries behind one, and after a pop or a cache's insert
pub use Rattle.hashlink_map.proofs.Listed.{lookup-behind, lookup-takes_first}
pub use Rattle.hashlink_lru.proofs.AfterCalls.{lookup-cache_inserts}
-- goal: what is seen of a stored key; a key that is replaced by one that equals it
pub use Rattle.hashlink_map.proofs.Listed.{stored_key-seen, lookup-set_key_at}
-- goal: a cache's entries after a use whose value is lent; what a push hands out
pub use Rattle.hashlink_lru.proofs.AfterCalls.{used_by, used_entries, pushed_absent}
-- goal: what a container that is passed by value, or its iterator, has returned
pub use Rattle.hashlink_map.proofs.Given.{extended_by_all, extended_until, StepsTakeFirst, given_all}
-- goal: the invariant of a loop by value, at its start, after one more item, and after the loop
pub use Rattle.hashlink_map.proofs.Given.{StepsSoFar, StepsSoFar-start, StepsSoFar-next, StepsSoFar-end}
-- goal: entries in the order of a number: bounds, and the order after an insert, a removal or pops
pub use Rattle.hashlink_map.proofs.Ordered.{number_of_last, All-from_last, number_of_last-from_All}
pub use Rattle.hashlink_map.proofs.Ordered.{All-from_first, IsNonDecreasingBy-remove_entry, ordered-push}
pub use Rattle.hashlink_map.proofs.Ordered.{ordered-put_last, ordered-put_back, ordered-inserts}
pub use Rattle.hashlink_map.proofs.Ordered.{filter-front, PopsBelow, PopsBelow-start, PopsBelow-pop}
pub use Rattle.hashlink_map.proofs.Ordered.{PopsBelow-order, PopsBelow-all}
-- goal: a set's elements after an insert of a new one
pub use Rattle.hashlink_set.proofs.AfterCalls.{set_inserts_new}
-- goal: the keys in the order of their last insert, after one more; which keys are among them
pub use Rattle.hashlink_history.proofs.Recency.{unique_keys-push, is_member-unique}

-- ---- two commands in one run

module _ {K V : Type 0} (test : K → Bool) where
  is_some-entry : (es : List (K × V)) → is_some (lookup test es) ≡ is_some (lookup_entry test es)
  is_some-entry es = ap is_some (lookup_is test es) ∙ is_some-map (λ e. e.1) (lookup_entry test es)

module _ {K V S : Type 0} (test : K → Bool) (old new : MapState K V S) where
  shorter_without : (r : Option (K × V)) → RemovesMatch test old new r → IsSome r
      → length new.entries < length old.entries
  shorter_without None s p = absurd (true≢false (sym p))
  shorter_without (Some e) s p =
      omega (arith, ap length s.step.entries)

module _ {K V B : Type 0} where
  value_of_reply : (answer : Result (Option V) (K × V))
      → is_refused {B = B} (insert_reply answer ∷ []) ≡ false
      → (was : Option V) × (insert_reply {B = B} answer ≡ Value was)
  value_of_reply (Ok was) n = (was, refl)
  value_of_reply (Err pair) n = absurd (true≢false n)

second_of_two : {R : Type 0} {x y : R} (xs ys : List R) → xs ≡ x ∷ [] → ys ≡ y ∷ []
    → slice_get (xs ++ (ys ++ [])) 1 ≡ Some y
second_of_two xs ys p q = rw (p, q) refl

module _ {K V B S : Type 0} (eq : K → K → Bool) (Says : K → V → B → Type 0) where
  module _ (Keeps : K → V → Bool → Type 0) (old : MapState K V S) (g k : K) (v : V) where
    abbrev removal : List (Command K V)
    removal = Remove g ∷ []

    removal_keeps_nodes : AllPass keeps_nodes removal
    removal_keeps_nodes = AllPass-from_list_all keeps_nodes (Remove g ∷ []) refl

    second_answered : (answers : List (Answered (Reply K V B) (MapState K V S)))
        → Run eq Says Keeps old (Remove g ∷ Insert k v ∷ []) answers
        → TakesKeysWhereShorter old (Remove g ∷ Insert k v ∷ []) answers eq
        → IsSome (lookup (eq g) old.entries)
        → (was : Option V) × (slice_get (replies_of answers) 1 ≡ Some (Value was))
    second_answered [] r t p = absurd r
    second_answered (a ∷ []) r t p = absurd r.1
    second_answered (a ∷ b ∷ []) r t p =
        let is_there = sym (is_some-entry (eq g) old.entries) ∙ p in
        let found = lookup_entry (eq g) old.entries in
        let is_shorter = shorter_without (eq g) old a.state found r.0.0 is_there in
        let taken = t 0 1 (omega arith) removal_keeps_nodes is_shorter in
        let value = value_of_reply r.1.0.0 (subst (λ rs. is_refused rs ≡ false) r.1.0.2 (taken.2 b refl)) in
        (value.0, second_of_two a.replies b.replies r.0.1 r.1.0.2 ∙ ap Some value.1)
    second_answered (a ∷ b ∷ c ∷ d) r t p = absurd r.1.1

module _ {K V B S : Type 0} {eq : K → K → Bool} {Says : K → V → B → Type 0} where
  module _ {Keeps : K → V → Bool → Type 0} where
    -- goal: in one `run`, the reply to an insert after the removal of a present key is a value
    pub answered_after_removal : {old new : MapState K V S} {g k : K} {v : V} {replies : List (Reply K V B)}
        (commands : List (Command K V)) → commands ≡ Remove g ∷ Insert k v ∷ []
        → LawfulRun eq Says Keeps old commands replies new → IsSome (lookup (eq g) old.entries)
        → (was : Option V) × (slice_get replies 1 ≡ Some (Value was))
    answered_after_removal {old = old} {new = new} {g = g} {k = k} {v = v} {replies = replies}
        commands is lawful p =
        let ran = subst (λ cs. LawfulRun eq Says Keeps old cs replies new) is lawful in
        subst (λ rs. (was : Option V) × (slice_get rs 1 ≡ Some (Value was))) (sym ran.runs.joined)
        (second_answered eq Says Keeps old g k v ran.runs.answers ran.runs.chain ran.shorter p)

    -- goal: what `run` requires of its closure: a pair that the closure may be shown is shown at the first
    -- command or later
    pub shown_now_or_later : {old : MapState K V S} {command : Command K V} {commands : List (Command K V)}
        {pair : K × V} → ShownBy eq Says Keeps old (command ∷ commands) pair
        → (ReadBy eq Says old command pair ⊎ KeepAsks old command pair)
        ⊎ ((a : Answered (Reply K V B) (MapState K V S)) × Step eq Says Keeps old command a.replies a.state
        × ShownBy eq Says Keeps a.state commands pair)
    shown_now_or_later shown = elim shown.comes [
      | inl now ↦ inl (elim now [ inl read ↦ inl read | inr asked ↦ inr asked.asks ])
      | inr later ↦ inr (later.0, later.1, record { comes = later.2 })
    ]
