-- The answer to a line to a cache with a budget.
use Rattle.std.specs.Prelude.{◌≡◌, ℕ, List, map, length, codes, decimal, nat_eq, Option, None, Some}
use Rattle.hashlink_model.specs.Weights.{WeightedState, total_weight}
use Rattle.hashlink_run.specs.{declared.replies.Reply.Reply, WeightedStep.WeightedStep}
use Rattle.hashlink_text.specs.{Spelling.{Says, weighted_spelled}, declared.shown.Form.TheVariants.OfValue}
use Rattle.hashlink_text.specs.declared.weighted_line.WeightedLine.{WeightedLine}
use Rattle.hashlink_text.specs.declared.weighted_line.WeightedLine.TheVariants.{Do, Total, Len, Iter}
use Rattle.hashlink_text.specs.Transcript.{Itself, list_shown, replies_shown}

-- the entries without their weights
abbrev pub pairs_of : List (ℕ × (ℕ × ℕ)) → List (ℕ × ℕ)
pairs_of entries = map (λ e. (e.0, e.1.0)) entries

module _ {S : Type 0} where
  -- starting at old, this text may answer a line with this meaning, and the cache reaches new; a bad line
  -- changes nothing
  abbrev pub WeightedShows : WeightedState ℕ ℕ S → Option WeightedLine → List ℕ → WeightedState ℕ ℕ S → Type 0
  WeightedShows old None text new = (text ≡ codes "bad") × (new ≡ old)
  WeightedShows old (Some (Do command)) text new =
      (replies : List (Reply ℕ ℕ (ℕ × ℕ))) × WeightedStep nat_eq Itself old command replies new
      × (text ≡ replies_shown OfValue replies)
  WeightedShows old (Some Total) text new = (text ≡ decimal (total_weight old.map.entries)) × (new ≡ old)
  WeightedShows old (Some Len) text new = (text ≡ decimal (length old.map.entries)) × (new ≡ old)
  WeightedShows old (Some Iter) text new = (text ≡ list_shown (pairs_of old.map.entries)) × (new ≡ old)

  abbrev pub WeightedLineShows : WeightedState ℕ ℕ S → List ℕ → List ℕ → WeightedState ℕ ℕ S → Type 0
  WeightedLineShows old line text new =
      (said : Option WeightedLine) × Says weighted_spelled line said × WeightedShows old said text new
