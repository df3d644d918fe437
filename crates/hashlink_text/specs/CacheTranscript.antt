-- The answers to a line to a cache, and to a line to two caches.
use Rattle.std.specs.Prelude.{◌≡◌, ℕ, List, ◌∷◌, ◌++◌, length, codes, decimal, nat_eq, Option, None, Some}
use Rattle.hashlink_model.specs.Cache.{CacheState}
use Rattle.hashlink_history.specs.CacheRuns.{answer_to, after_event}
use Rattle.hashlink_text.specs.Spelling.{Says, cache_spelled, pair_spelled}
use Rattle.hashlink_text.specs.declared.{cache_line.CacheLine.CacheLine, shown.Form.TheVariants.OfValue}
use Rattle.hashlink_text.specs.declared.cache_line.CacheLine.TheVariants.{Do, Len, Iter}
use Rattle.hashlink_text.specs.Transcript.{Itself, ShowsAll, ended, shown_by, list_shown, replies_shown}
use Rattle.hashlink_run.specs.declared.{cache_commands.PairCommand.PairCommand, replies.Reply.Reply}
use Rattle.hashlink_run.specs.{CacheCalls.event_of, CacheStep.CacheStep}

module _ {S : Type 0} where
  -- starting at old, this text may answer a line with this meaning, and the cache reaches new; a bad line
  -- changes nothing
  abbrev pub CacheShows : CacheState ℕ ℕ S → Option CacheLine → List ℕ → CacheState ℕ ℕ S → Type 0
  CacheShows old None text new = (text ≡ codes "bad") × (new ≡ old)
  CacheShows old (Some Len) text new = (text ≡ decimal (length old.map.entries)) × (new ≡ old)
  CacheShows old (Some Iter) text new = (text ≡ list_shown old.map.entries) × (new ≡ old)
  CacheShows old (Some (Do command)) text new =
      (replies : List (Reply ℕ ℕ (ℕ × ℕ))) × CacheStep nat_eq Itself old command replies new
      × (text ≡ replies_shown OfValue replies)

  abbrev pub CacheLineShows : CacheState ℕ ℕ S → List ℕ → List ℕ → CacheState ℕ ℕ S → Type 0
  CacheLineShows old line text new =
      (said : Option CacheLine) × Says cache_spelled line said × CacheShows old said text new

-- ---- two caches, by their entries

abbrev pub TwoLists : Type 0
TwoLists = List (ℕ × ℕ) × List (ℕ × ℕ)

-- the results that the two caches return for a command
abbrev pub answers_shown : TwoLists → PairCommand ℕ ℕ → List ℕ
answers_shown held command =
    shown_by decimal (answer_to nat_eq held.0 (event_of command))
    ++ (32 ∷ shown_by decimal (answer_to nat_eq held.1 (event_of command)))

-- the entries of both, a line for each
abbrev pub lists_shown : TwoLists → List ℕ
lists_shown held = ended (list_shown held.0) ++ ended (list_shown held.1)

module _ (c d : ℕ) where
  -- the answer to a line to two caches of capacities c and d, if no insert is refused
  abbrev pub PairShows : TwoLists → Option (PairCommand ℕ ℕ) → List ℕ → TwoLists → Type 0
  PairShows old None text new = (text ≡ codes "bad") × (new ≡ old)
  PairShows old (Some command) text new =
      (text ≡ answers_shown old command)
      × (new ≡ (after_event nat_eq c old.0 (event_of command), after_event nat_eq d old.1 (event_of command)))

  abbrev pub PairLineShows : TwoLists → List ℕ → List ℕ → TwoLists → Type 0
  PairLineShows old line text new =
      (said : Option (PairCommand ℕ ℕ)) × Says pair_spelled line said × PairShows old said text new

  -- an answer to the lines, starting at old, and the entries of both at the end
  abbrev pub PairRun : TwoLists → List (List ℕ) → List ℕ → Type 0
  PairRun old lines text =
      (answers : List ℕ) × (new : TwoLists) × ShowsAll PairLineShows old lines answers new
      × (text ≡ answers ++ lists_shown new)
