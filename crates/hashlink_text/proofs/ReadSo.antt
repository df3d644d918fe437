-- The answer to what is read from a line is the answer to the line.
use Rattle.std.proofs.Common.{ℕ, List, ◌∷◌, Option, subst}
use Rattle.hashlink_model.specs.MapState.{MapState}
use Rattle.hashlink_text.specs.{Lines.words_of, Reading.{line_read, read_words}, Tables.tokens}
use Rattle.hashlink_text.specs.{Spelling.{modes, mode_spelled, Said}, Text.{LinesRun, ModeRun}}
use Rattle.hashlink_text.specs.{Transcript.{LineShows, Shows}, declared.modes.Mode.Mode}
use Rattle.hashlink_text.proofs.{Grammar.{said_is, says_read}, Readers.{reads_line, reads_mode}}

-- what is read from a line, and from the first line
abbrev pub read_of : List ℕ → Option Said
read_of line = line_read (tokens (words_of line))

abbrev pub mode_read_of : List ℕ → Option Mode
mode_read_of line = read_words mode_spelled modes (tokens (words_of line))

module _ {S : Type 0} (old new : MapState ℕ ℕ S) (line text : List ℕ) where
  pub shows_read : LineShows old line text new → Shows old (read_of line) text new
  shows_read s =
      subst (λ said. Shows old said text new) (said_is reads_line line s.0 s.1) s.2

  pub shows_line : Shows old (read_of line) text new → LineShows old line text new
  shows_line s = (read_of line, says_read reads_line line, s)

module _ (S : Type 0) (line : List ℕ) (lines : List (List ℕ)) (text : List ℕ) where
  pub runs_read : LinesRun S (line ∷ lines) text → ModeRun S (mode_read_of line) lines text
  runs_read r =
      subst (λ mode. ModeRun S mode lines text)
      (said_is reads_mode line r.0 r.1) r.2

  pub runs_mode : ModeRun S (mode_read_of line) lines text → LinesRun S (line ∷ lines) text
  runs_mode r = (mode_read_of line, says_read reads_mode line, r)
