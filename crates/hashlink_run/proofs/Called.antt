-- One call of a cache that was not refused, and several calls in order: they leave what the definitions
-- compute.
use Rattle.hashlink_run.proofs.Names.{◌≡◌, ℕ, Bool, List, [], ◌∷◌, ◌++◌, length, Option, None, Some, Result}
use Rattle.hashlink_run.proofs.Names.{Ok, ◌+◌, ◌<◌, take, drop, map, MatchOption, append_assoc, refl, sym, ap}
use Rattle.hashlink_run.proofs.Names.{ap₂, ◌∙◌, subst, lookup, lookup_entry, option_map, CacheState}
use Rattle.hashlink_run.proofs.Names.{CacheInserts, CacheGets, Passed, Length, PassesInTurn, MapState}
use Rattle.hashlink_run.proofs.Names.{KeepsNodes, within_the_peak, lookup_is, none_from_lookup, kept-moves}
use Rattle.hashlink_run.proofs.Names.{kept-removes_key, empty_cache, Answered, Chain, state_after, replies_of}
use Rattle.hashlink_run.{proofs.Names.EventStep, specs.CacheCalls.{put_passed, events_passed, RunsFromEmpty}}
use Rattle.hashlink_run.{specs.Chain.Chained, proofs.Chained.Chain-take, proofs.EntryNodes.kept_unchanged}
use Rattle.std.{proofs.Common.{add-one, drop-cons, get_or}, specs.Option.option_map_or}
use Rattle.hashlink_history.specs.CacheRuns.{CacheEvent, Insert, Use, Remove, Peek, answer_to, after_event}
use Rattle.hashlink_history.specs.CacheRuns.{after_events, answers}
use Rattle.hashlink_history.proofs.Peaks.{passes-cache_insert, passes-kept, passes_in_parts}
use Rattle.hashlink_model.specs.{Entries.{put, without}, MapState.Removes}
use Rattle.hashlink_model.proofs.CacheSteps.{inserts_answer, inserts_entries, uses_entries}
use Rattle.hashlink_model.proofs.Splits.{remove_entry-none}

-- a list that is read from its front, each element mapped by f
pub rest_from : {X Y : Type 0} (f : X → Y) (xs : List X) (i : ℕ) (x : X) → i < length xs → x ≡ get_or xs i x
    → map f (drop i xs) ≡ f x ∷ map f (drop (i + 1) xs)
rest_from f xs i x at is =
    ap (map f) (drop-cons xs i x at)
    ∙ ap₂ (λ y j. f y ∷ map f (drop j xs)) (sym is) (sym (add-one i))

module _ {K V S : Type 0} (eq : K → K → Bool) where
  -- what one call leaves and returns
  pub record Leaves (old : CacheState K V S) (e : CacheEvent K V) (replies : List (Option V))
      (new : CacheState K V S) : Type 0 where
    pub entries : new.map.entries ≡ after_event eq old.cap old.map.entries e
    pub answer : replies ≡ answer_to eq old.map.entries e ∷ []
    pub cap : new.cap ≡ old.cap
    pub passes : PassesInTurn old.map
        (put_passed eq old.cap old.map.entries e ++ Length (length new.map.entries) ∷ []) new.map

  removed_entries : (old new : MapState K V S) (k : K) (o : Option (K × V))
      → lookup_entry (eq k) old.entries ≡ o
      → MatchOption o (new ≡ old) (λ _. Removes old new (without eq old.entries k))
      → new.entries ≡ without eq old.entries k
  removed_entries old new k None none s =
      ap (λ m. m.entries) s ∙ sym (remove_entry-none (eq k) old.entries
      (none_from_lookup (eq k) old.entries (lookup_is (eq k) old.entries ∙ ap (option_map (λ e. e.1)) none)))
  removed_entries old new k (Some e) some s = s.entries

  -- a step that keeps the nodes passes the length to which it leads
  pub passed_one : (old new : MapState K V S) → KeepsNodes old new
      → PassesInTurn old (Length (length new.entries) ∷ []) new
  passed_one old new kept = (new, passes-kept old new kept, refl)

  -- a use keeps the capacity and, if it misses, passes what an insert passes
  pub used : (old new : CacheState K V S) (k : K) (v : V) (w o : Option V)
      → MatchOption o (CacheInserts eq old new k v (Ok w))
      (λ x. (◌≡◌ {A = Result (Option V) (K × V)} (Ok w) (Ok (Some x))) × CacheGets eq old new k (Some x))
      → (new.cap ≡ old.cap)
      × PassesInTurn old.map
      (option_map_or (λ x. []) o (Length (length (put eq old.map.entries k v (length old.map.entries))) ∷ [])
      ++ Length (length new.map.entries) ∷ []) new.map
  used old new k v w None s = (s.cap, passes-cache_insert eq old new k v w s)
  used old new k v w (Some x) s =
      (s.1.cap, passed_one old.map new.map (kept-moves old.map new.map eq k _ (Some x) s.1.map))

  pub left : (old : CacheState K V S) (e : CacheEvent K V) (replies : List (Option V))
      (new : CacheState K V S)
      → EventStep eq old e replies new → Leaves old e replies new
  left old (Insert k v) replies new s =
      record {
        entries = inserts_entries eq old new k v s.0 s.1;
        answer = s.2 ∙ ap (λ w. w ∷ []) (inserts_answer eq old new k v s.0 s.1);
        cap = s.1.cap;
        passes = passes-cache_insert eq old new k v s.0 s.1;
      }
  left old (Use k v) replies new s =
      let both = uses_entries eq old new k v s.0 s.1 in
      let hit = used old new k v s.0 (lookup (eq k) old.map.entries) s.1 in
      record { entries = both.1; answer = s.2 ∙ ap (λ w. w ∷ []) both.0; cap = hit.0; passes = hit.1 }
  left old (Remove k) replies new s = record {
    entries = removed_entries old.map new.map k (lookup_entry (eq k) old.map.entries) refl s.0.map.step;
    answer = s.1;
    cap = s.0.cap;
    passes = passed_one old.map new.map (kept-removes_key old.map new.map eq k _ s.0.map);
  }
  left old (Peek k) replies new s = record {
    entries = ap (λ c. c.map.entries) s.0;
    answer = s.1;
    cap = ap (λ c. c.cap) s.0;
    passes = passed_one old.map new.map (kept_unchanged old.map new.map (ap (λ c. c.map) s.0));
  }

  -- what several calls in order leave and return
  record LeavesAll (old : CacheState K V S) (events : List (CacheEvent K V)) (replies : List (Option V))
      (new : CacheState K V S) : Type 0 where
    entries : new.map.entries ≡ after_events eq old.cap old.map.entries events
    answers : replies ≡ answers eq old.cap old.map.entries events
    cap : new.cap ≡ old.cap
    passes : PassesInTurn old.map (events_passed eq old.cap old.map.entries events) new.map

  left_all : (old : CacheState K V S) (events : List (CacheEvent K V))
      (xs : List (Answered (Option V) (CacheState K V S))) → Chain (EventStep eq) old events xs
      → LeavesAll old events (replies_of xs) (state_after old xs)
  left_all old [] [] r = record { entries = refl; answers = refl; cap = refl; passes = refl }
  left_all old [] (x ∷ xs) r = absurd r
  left_all old (e ∷ events) [] r = absurd r
  left_all old (e ∷ events) (x ∷ xs) r =
      let one = left old e x.replies x.state r.0 in
      let more = left_all x.state events xs r.1 in
      let own = put_passed eq old.cap old.map.entries e in
      let n : Passed = Length (length x.state.map.entries) in
      let rest = events_passed eq x.state.cap x.state.map.entries events in
      let passed =
      passes_in_parts old.map x.state.map (state_after x.state xs).map (own ++ n ∷ []) rest one.passes
      more.passes in
      record {
        entries = more.entries ∙ ap₂ (λ c zs. after_events eq c zs events) one.cap one.entries;
        answers = ap₂ (λ a b. a ++ b) one.answer
            (more.answers ∙ ap₂ (λ c zs. answers eq c zs events) one.cap one.entries);
        cap = more.cap ∙ one.cap;
        passes = subst (λ ps. PassesInTurn old.map ps (state_after x.state xs).map)
            (append_assoc own (n ∷ []) rest
            ∙ ap₂ (λ c zs. own ++ Length (length zs) ∷ events_passed eq c zs events) one.cap one.entries)
            passed;
      }

  -- the same from an empty cache
  pub runs_from_empty : (s : S) (c : ℕ) (events : List (CacheEvent K V)) (replies : List (Option V))
      (new : CacheState K V S) → Chained (EventStep eq) (empty_cache s c) events replies new
      → RunsFromEmpty eq s c events replies new
  runs_from_empty s c events replies new r =
      let all = left_all (empty_cache s c) events r.answers r.chain in
      let end = sym r.reached in
      record {
        chain = r;
        entries = ap (λ m. m.map.entries) r.reached ∙ all.entries;
        along = λ n.
            (left_all (empty_cache s c) (take n events) (take n r.answers)
            (Chain-take (EventStep eq) n (empty_cache s c) events r.answers r.chain)).entries;
        answered = r.joined ∙ all.answers;
        capacity = ap (λ m. m.cap) r.reached ∙ all.cap;
        nodes = within_the_peak (empty_cache s c).map new.map (events_passed eq c [] events)
            (rw end at all.passes);
      }
