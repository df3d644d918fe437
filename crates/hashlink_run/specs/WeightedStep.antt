-- The replies of a cache with a budget to a command, and the state that it reaches. If a command reads a
-- value, the reply contains what `Says` allows for the command's key and that value.
use Rattle.std.specs.{Prelude.{◌≡◌, Bool, List, [], ◌∷◌, Option, Some, Result, Ok, Err}, Map.lookup}
use Rattle.std.specs.Option.{option_map}
use Rattle.hashlink_model.specs.Weights.{WeightedState}
use Rattle.hashlink_weighted.specs.Answers.{InsertsWithin, without_weight}
use Rattle.hashlink_weighted.specs.Weighed.{WeightedGets, WeightedRemoves}
use Rattle.hashlink_weighted.specs.declared.error.WeightError.{WeightError}
use Rattle.hashlink_weighted.specs.declared.error.WeightError.TheVariants as error
use Rattle.hashlink_run.specs.declared.{cache_commands.WeightedCommand.WeightedCommand, replies.Reply.Reply}
use Rattle.hashlink_run.specs.declared.cache_commands.WeightedCommand.TheVariants.{Insert, Get, Peek, Remove}
use Rattle.hashlink_run.specs.{declared.replies.Reply.TheVariants.{Value, Refused, TooHeavy}, Reads.Replies}

-- the reply to an insert: the old value, or the refused pair
abbrev pub weighted_reply : {K V B : Type 0} → Result (Option V) (WeightError K V) → Reply K V B
weighted_reply (Ok old) = Value old
weighted_reply (Err (error.TooHeavy pair)) = TooHeavy pair.0 pair.1
weighted_reply (Err (error.Memory pair)) = Refused pair.0 pair.1

module _ {K V S : Type 0} (eq : K → K → Bool) where
  -- the value of the key
  abbrev pub value_of : WeightedState K V S → K → Option V
  value_of old k = without_weight (lookup (eq k) old.map.entries)

  -- the command's key with that value
  abbrev pub named_pair : WeightedState K V S → K → Option (K × V)
  named_pair old k = option_map (λ v. (k, v)) (value_of old k)

  -- the command, run on old, reads the pair
  abbrev pub ReadFromWeighted : WeightedState K V S → WeightedCommand K V → K × V → Type 0
  ReadFromWeighted old (Get k) pair = named_pair old k ≡ Some pair
  ReadFromWeighted old (Peek k) pair = named_pair old k ≡ Some pair
  ReadFromWeighted old command pair = ⊥

module _ {K V B S : Type 0} (eq : K → K → Bool) (Says : K → V → B → Type 0) where
  -- starting at old, the cache may reply to the command by `replies` and reach `new`
  abbrev pub WeightedStep : WeightedState K V S → WeightedCommand K V → List (Reply K V B)
      → WeightedState K V S → Type 0
  WeightedStep old (Insert k v weight) replies new =
      (answer : Result (Option V) (WeightError K V)) × InsertsWithin eq old new k v weight answer
      × (replies ≡ weighted_reply answer ∷ [])
  WeightedStep old (Get k) replies new =
      WeightedGets eq old new k × Replies Says (named_pair eq old k) replies
  WeightedStep old (Peek k) replies new = (new ≡ old) × Replies Says (named_pair eq old k) replies
  WeightedStep old (Remove k) replies new =
      WeightedRemoves eq old new k × (replies ≡ Value (value_of eq old k) ∷ [])
