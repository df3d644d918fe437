-- Topics with their subscribers.
use Rattle.std.specs.{Prelude.{ℕ, List, [], Option}, Map.lookup, Option.option_map_or}
use Rattle.std.specs.declared.string.String.{String}
use Rattle.hashlink.specs.{Sets.{SetState, elements_of}, Texts.is_text}

-- the elements of a set that was looked up; none if there is no set
abbrev pub elements_in : {S : Type 0} → Option (SetState ℕ S) → List ℕ
elements_in o = option_map_or elements_of o []

-- the subscribers of a topic, by its text, in the order of their last subscriptions; none if the topic is
-- absent
abbrev pub subscribers : {A S : Type 0} → List (String A × SetState ℕ S) → List ℕ → List ℕ
subscribers es text = elements_in (lookup (is_text text) es)
