-- The state in which a cache ends, after the loan of a value has ended.
use Rattle.std.specs.{Prelude.{Bool, ⊤}, Borrow.{Fml, RattleType, MutBor, follows_so}}
use mathlib.Core.Option.{none}
use Rattle.std.specs.declared.hash.Hasher as hasher
use Rattle.std.specs.declared.hash.BuildHasher as builder
use Rattle.hashlink_model.specs.Weights.{WeightedState}
use Rattle.hashlink_core.specs.KeyedLends.{HashMembers}
use Rattle.hashlink_weighted.specs.{contracts.cache.WeightedCache.the_row, Weighed.WeightedGetsMatch}

module _ (K V S T : RattleType) (g : HashMembers K.Denot) (b : builder.Ghosts S.Denot T.Denot)
    (w : hasher.Ghosts T.Denot) where
  abbrev pub cache_row : RattleType
  cache_row = the_row K V S T (record { eq = g.eq }) (record { hash_input = g.hash_input }) b w

  -- the first entry whose key passes, if any, moved last with its value and weight unchanged
  abbrev pub EndsUsed : MutBor (WeightedState K.Denot V.Denot S.Denot) → (K.Denot → Bool) → Fml
  EndsUsed c test =
      follows_so cache_row cache_row c.ghost_name none (λ _ _. ⊤) (λ new. WeightedGetsMatch test c.now new)
