-- What a line may mean, but for lines to a map, is named as it is spelled.
use Rattle.std.specs.Prelude.{◌≡◌, true, false, nat_le, [], ◌∷◌, refl}
use Rattle.std.proofs.{Common.⊎_elim, lemmas.Bool.cases_Bool}
use Rattle.hashlink_run.specs.declared.cache_commands.CacheCommand.TheVariants as cache
use Rattle.hashlink_run.specs.declared.cache_commands.PairCommand.TheVariants as pair
use Rattle.hashlink_run.specs.declared.cache_commands.WeightedCommand.TheVariants as weighted
use Rattle.hashlink_text.specs.declared.cache_line.CacheLine.TheVariants as cache_line
use Rattle.hashlink_text.specs.declared.modes.Mode.TheVariants as mode
use Rattle.hashlink_text.specs.declared.weighted_line.WeightedLine.TheVariants as weighted_line
use Rattle.hashlink_text.specs.Reading.{EachNamed, EachFound, IsNamed}
use Rattle.hashlink_text.specs.Spelling.{cache_lines, pair_commands, weighted_lines, modes, cache_spelled}
use Rattle.hashlink_text.specs.Spelling.{pair_spelled, weighted_spelled, mode_spelled}

pub pair_named : IsNamed pair_spelled pair_commands
pair_named = record { named = named; found = found }
  where
    named : EachNamed pair_spelled pair_commands
    named (k ∷ v ∷ []) = refl
    named ns = refl

    found : EachFound pair_spelled pair_commands
    found (pair.Insert k v) = (refl, refl)
    found command = (refl, refl)

pub cache_named : IsNamed cache_spelled cache_lines
cache_named = record { named = named; found = found }
  where
    named : EachNamed cache_spelled cache_lines
    named (k ∷ v ∷ []) = refl
    named ns = refl

    found : EachFound cache_spelled cache_lines
    found (cache_line.Do (cache.Insert k v)) = (refl, refl)
    found line = (refl, refl)

pub weighted_named : IsNamed weighted_spelled weighted_lines
weighted_named = record { named = named; found = found }
  where
    named : EachNamed weighted_spelled weighted_lines
    named (k ∷ v ∷ w ∷ []) = refl
    named ns = refl

    found : EachFound weighted_spelled weighted_lines
    found (weighted_line.Do (weighted.Insert k v w)) = (refl, refl)
    found line = (refl, refl)

pub mode_named : IsNamed mode_spelled modes
mode_named = record { named = named; found = found }
  where
    named : EachNamed mode_spelled modes
    named (c ∷ d ∷ []) =
        ⊎_elim (λ (yes : nat_le c d ≡ true). rw yes (rw yes refl)) (λ (no : nat_le c d ≡ false). rw no refl)
        (cases_Bool (nat_le c d))
    named ns = refl

    found : EachFound mode_spelled modes
    found (mode.Pair c d) =
        ⊎_elim (λ (yes : nat_le c d ≡ true). rw yes (refl, rw yes (rw yes refl)))
        (λ (no : nat_le c d ≡ false). rw no (refl, refl))
        (cases_Bool (nat_le c d))
    found m = (refl, refl)
