-- The replies to calls, by their results.
use Rattle.std.specs.Prelude.{Bool, true, false, List, ◌∷◌, Option, Result, Ok, Err}
use Rattle.std.specs.declared.alloc.AllocError.{AllocError}
use Rattle.hashlink_run.specs.declared.replies.{Reply.Reply, Reply.TheVariants.{Done, Denied, Value, Refused}}

module _ {K V B : Type 0} where
  -- the reply to an insert: the old value, or the refused pair
  abbrev pub insert_reply : Result (Option V) (K × V) → Reply K V B
  insert_reply (Ok old) = Value old
  insert_reply (Err pair) = Refused pair.0 pair.1

  -- the reply to a shrink
  abbrev pub shrink_reply : Result (Unit {0}) AllocError → Reply K V B
  shrink_reply (Ok done) = Done
  shrink_reply (Err refused) = Denied

  -- a reply, or the refused pair
  abbrev pub reply_or_refused : Result (Reply K V B) (K × V) → Reply K V B
  reply_or_refused (Ok reply) = reply
  reply_or_refused (Err pair) = Refused pair.0 pair.1

  -- whether the first of the replies refuses a pair
  abbrev pub is_refused : List (Reply K V B) → Bool
  is_refused (Refused k v ∷ replies) = true
  is_refused replies = false
