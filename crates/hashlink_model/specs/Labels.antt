-- The definitions for keys that are a text and a number and are compared only by the text, so that equal keys
-- may be different objects. Texts are numbered.
use Rattle.std.specs.Prelude.{ℕ, Bool, List, length, nat_eq}
use Rattle.hashlink_model.specs.Cache as cache
use Rattle.hashlink_model.specs.Entries as entries
use Rattle.hashlink_model.specs.Entry as entry
use Rattle.hashlink_model.specs.Sets as sets

abbrev pub Label : Type 0
Label = ℕ × ℕ

abbrev pub same_text : Label → Label → Bool
same_text p q = nat_eq p.0 q.0

-- entries whose keys are labels
abbrev pub Labelled : Type 0
Labelled = List (Label × ℕ)

-- the map's insert
abbrev pub insert : Labelled → Label → ℕ → Labelled
insert es k v = entries.put same_text es k v (length es)

abbrev pub stored_key : Labelled → Label → Label
stored_key = entries.stored_key same_text

abbrev pub insert_entry : Labelled → ℕ → Label → ℕ → Labelled
insert_entry = entry.insert_entry

abbrev pub set_key_at : Labelled → ℕ → Label → Labelled
set_key_at = entries.set_key_at

-- sets of labels: insert, replace, and the pair of caches
abbrev pub insert_element : List Label → Label → List Label
insert_element ts t = sets.put_element same_text ts t (length ts)

abbrev pub replaced : List Label → Label → List Label
replaced = sets.replaced same_text

abbrev pub cache_insert : Labelled → ℕ → Label → ℕ → Labelled
cache_insert = cache.cache_put same_text
