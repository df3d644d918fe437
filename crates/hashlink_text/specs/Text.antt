-- What `run_text` returns, and what `serve` writes.
use Rattle.std.specs.{Prelude.{◌≡◌, ℕ, List, [], ◌∷◌, codes, Option, None, Some}, Io.KnownBytes.Appends}
use Rattle.hashlink_model.specs.{Cache.CacheState, MapState.{MapState, empty_map}, Weights.WeightedState}
use Rattle.hashlink_core.specs.declared.hash_builder.DefaultHashBuilder.{DefaultHashBuilder}
use Rattle.hashlink_lru.specs.Cached.{empty_cache}
use Rattle.hashlink_weighted.specs.Weighed.{empty_weighted}
use Rattle.hashlink_text.specs.{Lines.lines_of, Spelling.{Says, mode_spelled}, declared.modes.Mode.Mode}
use Rattle.hashlink_text.specs.declared.modes.Mode.TheVariants.{Map, Cache, Pair, Weighted}
use Rattle.hashlink_text.specs.CacheTranscript.{CacheLineShows, PairRun}
use Rattle.hashlink_text.specs.{Transcript.{LineShows, ShowsAll, ended}, WeightedTranscript.WeightedLineShows}

module _ (S : Type 0) where
  -- the answer to the lines after the mode line, starting with an empty map or empty caches. If the mode line
  -- is bad, only it is answered. In the mode `pair`, the entries of both caches are shown at the end
  abbrev pub ModeRun : Option Mode → List (List ℕ) → List ℕ → Type 0
  ModeRun None lines text = text ≡ ended (codes "bad")
  ModeRun (Some Map) lines text =
      (hasher : S) × (new : MapState ℕ ℕ S) × ShowsAll LineShows (empty_map hasher) lines text new
  ModeRun (Some (Cache c)) lines text =
      (hasher : S) × (new : CacheState ℕ ℕ S) × ShowsAll CacheLineShows (empty_cache hasher c) lines text new
  ModeRun (Some (Pair c d)) lines text = PairRun c d ([], []) lines text
  ModeRun (Some (Weighted b)) lines text =
      (hasher : S) × (new : WeightedState ℕ ℕ S)
      × ShowsAll WeightedLineShows (empty_weighted hasher b) lines text new

  -- the answer to a text of lines, the first of which names the mode
  abbrev pub LinesRun : List (List ℕ) → List ℕ → Type 0
  LinesRun [] text = text ≡ []
  LinesRun (mode ∷ lines) text = (said : Option Mode) × Says mode_spelled mode said × ModeRun said lines text

-- the text is an answer to the input
abbrev pub IsTranscript : List ℕ → List ℕ → Type 0
IsTranscript input text = LinesRun DefaultHashBuilder (lines_of input) text

-- an answer to the input follows the bytes that were written before, if they are known
abbrev pub AppendsTranscript : Option (List ℕ) → Option (List ℕ) → List ℕ → Type 0
AppendsTranscript old new input = (text : List ℕ) × IsTranscript input text × Appends old new text
