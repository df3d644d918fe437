-- The replies of a cache to a command, and the state that it reaches. If a command reads a pair, the reply
-- contains a value that `Says` allows for it.
use Rattle.std.specs.Prelude.{◌≡◌, Bool, List, [], ◌∷◌, Option, Some, Result, MatchResult}
use Rattle.std.specs.Map.{lookup, lookup_entry}
use Rattle.hashlink_model.specs.Cache.{CacheState, OnMap, EvictsFront, CacheInserts, CacheGets, CacheUses}
use Rattle.hashlink_model.specs.{Cache.SetsCapacity, MapState.MapState, Steps.{RemovesKey, PopsFront, Clears}}
use Rattle.hashlink_model.specs.Walk.{first_of}
use Rattle.hashlink_run.specs.declared.cache_commands.CacheCommand.{CacheCommand}
use Rattle.hashlink_run.specs.declared.cache_commands.CacheCommand.TheVariants as cache
use Rattle.hashlink_run.specs.declared.replies.{Reply.Reply, Reply.TheVariants.{Done, Value, Pair, Refused}}
use Rattle.hashlink_run.specs.{CallReplies.insert_reply, Chain.{Answered, Chain, Chained}, Reads.Replies}
use Rattle.hashlink_run.specs.EntrySteps.{EntrySteps, ReadAtEntry}

-- the command, run on old, reads the pair
abbrev pub CommandReads : {K V S : Type 0} → (K → K → Bool) → CacheState K V S → CacheCommand K V → K × V
    → Type 0
CommandReads eq old (cache.Use k v) pair = lookup_entry (eq k) old.map.entries ≡ Some pair
CommandReads {K} {V} {S} eq old (cache.Entry k step) pair =
    (between : MapState K V S) × EvictsFront old.map between old.cap × ReadAtEntry eq between k step pair
CommandReads eq old (cache.Get k) pair = lookup_entry (eq k) old.map.entries ≡ Some pair
CommandReads eq old (cache.Peek k) pair = lookup_entry (eq k) old.map.entries ≡ Some pair
CommandReads eq old command pair = ⊥

-- the same as a record: terms of it are compared by its arguments, which is cheap
pub record ReadFromCache {K V S : Type 0} (eq : K → K → Bool) (old : CacheState K V S)
    (command : CacheCommand K V) (pair : K × V) : Type 0 where
  pub reads : CommandReads eq old command pair

module _ {K V B S : Type 0} (eq : K → K → Bool) (Says : K → V → B → Type 0) where
  -- starting at old, the cache may reply to the command by `replies` and reach `new`
  abbrev pub CacheStep : CacheState K V S → CacheCommand K V → List (Reply K V B) → CacheState K V S → Type 0
  CacheStep old (cache.Insert k v) replies new =
      (answer : Result (Option V) (K × V)) × CacheInserts eq old new k v answer
      × (replies ≡ insert_reply answer ∷ [])
  CacheStep old (cache.Use k v) replies new =
      (answer : Result (Option V) (K × V)) × CacheUses eq old new k v answer
      × MatchResult answer (λ w. Replies Says (lookup_entry (eq k) old.map.entries) replies)
      (λ pair. replies ≡ Refused pair.0 pair.1 ∷ [])
  CacheStep old (cache.Entry k step) replies new =
      (between : MapState K V S) × EvictsFront old.map between old.cap
      × EntrySteps eq Says between k step replies new.map × (new.cap ≡ old.cap)
  CacheStep old (cache.Get k) replies new =
      CacheGets eq old new k (lookup (eq k) old.map.entries)
      × Replies Says (lookup_entry (eq k) old.map.entries) replies
  CacheStep old (cache.Peek k) replies new = (new ≡ old)
      × Replies Says (lookup_entry (eq k) old.map.entries) replies
  CacheStep old (cache.Remove k) replies new =
      OnMap (λ a b. RemovesKey eq a b k (lookup_entry (eq k) a.entries)) old new
      × (replies ≡ Value (lookup (eq k) old.map.entries) ∷ [])
  CacheStep old (cache.SetCapacity n) replies new = SetsCapacity old new n × (replies ≡ Done ∷ [])
  CacheStep old cache.Clear replies new = OnMap Clears old new × (replies ≡ Done ∷ [])
  CacheStep old cache.RemoveLru replies new =
      OnMap (λ a b. PopsFront a b (first_of a.entries)) old new
      × (replies ≡ Pair (first_of old.map.entries) ∷ [])

  -- starting at old, the cache may reply to the commands, in order, as `answers` states
  abbrev pub CacheRun : CacheState K V S → List (CacheCommand K V)
      → List (Answered (Reply K V B) (CacheState K V S))
      → Type 0
  CacheRun = Chain CacheStep

  -- the same with all replies joined, and with the state at the end
  abbrev pub CacheRuns : CacheState K V S → List (CacheCommand K V) → List (Reply K V B)
      → CacheState K V S → Type 0
  CacheRuns = Chained CacheStep
