-- The error of a call that makes the value of an absent key, if the making or the insert fails.
use Rattle.std.specs.Prelude.{◌≡◌, Bool, Result, Ok, Err}
use Rattle.hashlink_model.specs.MapState.{MapState, RefusesEntry}
use Rattle.hashlink_map.specs.declared.try_insert_error.TryInsertError.{TryInsertError}
use Rattle.hashlink_map.specs.declared.try_insert_error.TryInsertError.TheVariants.{Make, Memory}

module _ {K V E : Type 0} where
  -- the error has the key, and the value that was made or the error of making it
  abbrev pub HandsBack : (Result V E → Type 0) → K → TryInsertError K V E → Type 0
  HandsBack Made k (Make q e) = (q ≡ k) × Made (Err e)
  HandsBack Made k (Memory pair) = (pair.0 ≡ k) × Made (Ok pair.1)

  -- if no value was made, the map is unchanged; if memory was lacking, it is as a refusal of the pair leaves
  -- it
  abbrev pub FailsToInsert : {S : Type 0} → (K → K → Bool) → MapState K V S → MapState K V S → K
      → TryInsertError K V E
      → Type 0
  FailsToInsert eq old new k (Make q e) = new ≡ old
  FailsToInsert eq old new k (Memory pair) = RefusesEntry eq old new k pair.1 pair
