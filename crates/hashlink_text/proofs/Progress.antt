-- A run over lines that has answered some of them.
use Rattle.std.proofs.Common.{◌≡◌, ℕ, List, [], ◌∷◌, ◌++◌, refl, sym, ap, ◌∙◌, append_assoc, append-nil}
use Rattle.std.{proofs.Common.subst, specs.declared.string.String.String}
use Rattle.hashlink_text.specs.Transcript.{Pushes, ShowsAll, ended}

module _ {M : Type 0} (ShowsLine : M → List ℕ → List ℕ → M → Type 0) where
  -- this was written after `before`; any answer to the lines left, appended to it, is an answer to all lines
  pub record HasCome (start now : M) (all rest : List (List ℕ)) (before after : List ℕ) : Type 0 where
    pub written : List ℕ
    pub wrote : after ≡ before ++ written
    pub goes_on : (text : List ℕ) (new : M) → ShowsAll ShowsLine now rest text new
        → ShowsAll ShowsLine start all (written ++ text) new

  pub HasCome-start : (start : M) (all : List (List ℕ)) (before : List ℕ)
      → HasCome start start all all before before
  HasCome-start start all before =
      record { written = []; wrote = sym (append-nil before); goes_on = λ text new run. run }

  module _ {start now : M} {all : List (List ℕ)} {before after : List ℕ} where
    pub HasCome-line : {rest : List (List ℕ)} {next : M} {more : List ℕ} (line : List ℕ)
        → HasCome start now all (line ∷ rest) before after
        → (answer : List ℕ) × ShowsLine now line answer next × (more ≡ after ++ ended answer)
        → HasCome start next all rest before more
    HasCome-line {next = next} line come shown = record {
      written = come.written ++ ended shown.0;
      wrote = shown.2 ∙ ap (λ w. w ++ ended shown.0) come.wrote
          ∙ append_assoc before come.written (ended shown.0);
      goes_on = λ text new run.
          subst (λ w. ShowsAll ShowsLine start all w new)
          (sym (append_assoc come.written (ended shown.0) text))
          (come.goes_on (ended shown.0 ++ text) new (shown.0, next, text, shown.1, run, refl));
    }

    pub HasCome-all : HasCome start now all [] before after
        → (text : List ℕ) × ShowsAll ShowsLine start all text now × (after ≡ before ++ text)
    HasCome-all come = (
      come.written,
      subst (λ w. ShowsAll ShowsLine start all w now) (append-nil come.written)
          (come.goes_on [] now (refl, refl)),
      come.wrote,
    )

-- an answer to all lines by containers is one by the values that contracts see of them
module _ {C M : Type 0} (seen : C → M) (ShowsLine : M → List ℕ → List ℕ → M → Type 0) where
  abbrev pub SeesLine : C → List ℕ → List ℕ → C → Type 0
  SeesLine old line answer new = ShowsLine (seen old) line answer (seen new)

  ShowsAll-seen : (old : C) (lines : List (List ℕ)) (text : List ℕ) (new : C)
      → ShowsAll SeesLine old lines text new
      → ShowsAll ShowsLine (seen old) lines text (seen new)
  ShowsAll-seen old [] text new s = (s.0, ap seen s.1)
  ShowsAll-seen old (line ∷ lines) text new s =
      (s.0, seen s.1, s.2, s.3, ShowsAll-seen s.1 lines s.2 new s.4, s.5)

  pub Pushes-seen : {A : Type 0} (before after : String A) (old : C) (lines : List (List ℕ)) (new : C)
      → Pushes (λ text. ShowsAll SeesLine old lines text new) before after
      → Pushes (λ text. ShowsAll ShowsLine (seen old) lines text (seen new)) before after
  Pushes-seen before after old lines new pushed =
      (pushed.0, ShowsAll-seen old lines pushed.0 new pushed.1, pushed.2)
