-- Lists of commands to a cache: the nodes and the lengths along them, and which commands are not refused.
use Rattle.hashlink_history.specs.CacheRuns as event
use Rattle.hashlink_run.specs.declared.cache_commands.CacheCommand.TheVariants as cache
use Rattle.std.specs.Prelude.{◌≡◌, ℕ, ◌+◌, ◌≤◌, ◌<◌, Bool, true, false, cond, List, [], ◌∷◌, ◌++◌, length}
use Rattle.std.specs.{Prelude.{take, drop, slice_get, Some}, List.AllPass}
use Rattle.hashlink_model.{specs.Cache.{CacheState, IsWithin}, specs.MapState.{MayRefuse, node_count}}
use Rattle.hashlink_history.specs.Peak.{Passed, Length, peak}
use Rattle.hashlink_run.{specs.CacheStep.{CacheRuns, CacheStep, ReadFromCache}, specs.CallReplies.is_refused}
use Rattle.hashlink_run.{specs.Chain.{Answered, ComesTo, after}, specs.declared.replies.Reply.Reply}
use Rattle.hashlink_run.{specs.CacheCalls.put_passed, specs.declared.cache_commands.CacheCommand.CacheCommand}

-- starting at old, one of the commands may show the pair to the closure
pub record ShownByCache {K V B S : Type 0} (eq : K → K → Bool) (Says : K → V → B → Type 0)
    (old : CacheState K V S) (commands : List (CacheCommand K V)) (pair : K × V) : Type 0 where
  pub comes : ComesTo (CacheStep eq Says) (ReadFromCache eq) old commands pair

-- whether a command neither sets the capacity, nor releases nodes, nor may leave a pair beyond the capacity
abbrev pub leaves_spare : {K V : Type 0} → CacheCommand K V → Bool
leaves_spare (cache.Entry k step) = false
leaves_spare (cache.SetCapacity n) = false
leaves_spare cache.Clear = false
leaves_spare command = true

-- whether a command names no entry
abbrev pub names_no_entry : {K V : Type 0} → CacheCommand K V → Bool
names_no_entry (cache.Entry k step) = false
names_no_entry command = true

module _ {K V B S : Type 0} where
  module _ (eq : K → K → Bool) where
    -- the length that a command passes before anything is dropped, unless its insert is refused
    abbrev pub command_put : CacheState K V S → CacheCommand K V → List (Reply K V B) → List Passed
    command_put old (cache.Insert k v) replies =
        cond (is_refused replies) [] (put_passed eq old.cap old.map.entries (event.Insert k v))
    command_put old (cache.Use k v) replies =
        cond (is_refused replies) [] (put_passed eq old.cap old.map.entries (event.Use k v))
    command_put old command replies = []

    -- the lengths that a run passes, starting at `old`
    abbrev pub cache_passed : CacheState K V S → List (CacheCommand K V)
        → List (Answered (Reply K V B) (CacheState K V S)) → List Passed
    cache_passed old [] answers = []
    cache_passed old (command ∷ commands) [] = []
    cache_passed old (command ∷ commands) (a ∷ answers) =
        command_put old command a.replies
        ++ Length (length a.state.map.entries) ∷ cache_passed a.state commands answers

    -- after each command the nodes are within the peak
    abbrev pub CacheWithinPeak : CacheState K V S → List (CacheCommand K V)
        → List (Answered (Reply K V B) (CacheState K V S)) → Type 0
    CacheWithinPeak old commands answers = (n : ℕ)
        → node_count (after old answers n).map
        ≤ peak (node_count old.map) (cache_passed old (take n commands) (take n answers))

    -- the command is an insert, or a use that missed, and drops a pair because it exceeded the capacity
    abbrev pub DropsPair : CacheState K V S → CacheCommand K V → List (Reply K V B) → Type 0
    DropsPair old command replies =
        (n : ℕ) × (command_put old command replies ≡ Length n ∷ []) × (old.cap < n)

    -- if the command at index i dropped a pair, and no command from i to j set the capacity, cleared the
    -- cache or named an entry, then no insert may be refused at j, and the command at index j refuses no pair
    abbrev pub TakesAllAfterADrop : CacheState K V S → List (CacheCommand K V)
        → List (Answered (Reply K V B) (CacheState K V S)) → Type 0
    TakesAllAfterADrop old commands answers =
        (i j : ℕ) (command : CacheCommand K V) (a : Answered _ _) → slice_get commands i ≡ Some command
        → slice_get answers i ≡ Some a → DropsPair (after old answers i) command a.replies
        → i < j → AllPass leaves_spare (drop i (take j commands))
        → ((k : K) → ¬ MayRefuse eq (after old answers j).map k)
        × ((b : Answered _ _) → slice_get answers j ≡ Some b → is_refused b.replies ≡ false)

    -- after an insert or a use that missed, if it was not refused, the cache is within its capacity, whatever
    -- its length was before
    abbrev pub InsertsFit : CacheState K V S → List (CacheCommand K V)
        → List (Answered (Reply K V B) (CacheState K V S)) → Type 0
    InsertsFit old commands answers =
        (i n : ℕ) (command : CacheCommand K V) (a : Answered _ _) → slice_get commands i ≡ Some command
        → slice_get answers i ≡ Some a → command_put (after old answers i) command a.replies ≡ Length n ∷ []
        → IsWithin a.state 0

  -- a cache that has at most n entries beyond its capacity has at most n after each later command. For n = 0
  -- this holds as long as no command names an entry, for n above 0 always. If a command sets the capacity,
  -- the new one counts from then on
  pub record KeepsBounds (old : CacheState K V S) (commands : List (CacheCommand K V))
      (answers : List (Answered (Reply K V B) (CacheState K V S))) : Type 0 where
    pub without_entries : (n i j : ℕ) → i ≤ j → IsWithin (after old answers i) n
        → AllPass names_no_entry (drop i (take j commands))
        → IsWithin (after old answers j) n
    pub with_entries : (n i j : ℕ) → i ≤ j → IsWithin (after old answers i) (n + 1)
        → IsWithin (after old answers j) (n + 1)

-- starting at old, the cache may reply to the commands by `replies` and reach `new`, by a chain of steps.
-- Along it the nodes stay within the peak, nothing is refused after a drop, bounds on the length stay, and
-- inserts fit
pub record LawfulCacheRun {K V B S : Type 0} (eq : K → K → Bool) (Says : K → V → B → Type 0)
    (old : CacheState K V S) (commands : List (CacheCommand K V)) (replies : List (Reply K V B))
    (new : CacheState K V S) : Type 0 where
  pub runs : CacheRuns eq Says old commands replies new
  pub within_peak : CacheWithinPeak eq old commands runs.answers
  pub after_a_drop : TakesAllAfterADrop eq old commands runs.answers
  pub bounded : KeepsBounds old commands runs.answers
  pub fits : InsertsFit eq old commands runs.answers

module _ {K V S : Type 0} where
  -- what a run keeps: a cache that had at most n entries beyond its capacity still has at most n, for n = 0
  -- if no command named an entry
  pub record StaysBounded (old : CacheState K V S) (commands : List (CacheCommand K V))
      (new : CacheState K V S) : Type 0 where
    pub without_entries : (n : ℕ) → AllPass names_no_entry commands → IsWithin old n → IsWithin new n
    pub with_entries : (n : ℕ) → IsWithin old (n + 1) → IsWithin new (n + 1)
