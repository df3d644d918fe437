-- What is read from a line is what it means: for lines to caches, first lines, and lines to a map.
use Rattle.std.proofs.Common.{◌≡◌, ℕ, zero, suc, true, List, [], ◌∷◌, ◌++◌, take, drop, map}
use Rattle.std.proofs.Common.{Option, Some, option_and_then, refl, codes, sym, ap, ap₂, ◌∙◌, ⊎_elim, cond}
use Rattle.std.specs.{Option.{option_map, option_map_or}, List.flat_map, Str.bytes_eq}
use Rattle.std.proofs.lemmas.{List.{map-append, take-append-drop, take-map}}
use Rattle.std.proofs.lemmas.{Option.same_Some, Slice.Eq.bytes_eq-Decides}
use Rattle.hashlink_run.specs.declared.commands.{Command.TheVariants.Entry, CursorStep.CursorStep}
use Rattle.hashlink_run.specs.declared.commands.CursorStep.TheVariants.{Next}
use Rattle.hashlink_run.specs.declared.commands.EntryStep.TheVariants as step
use Rattle.hashlink_text.specs.Reading.{cursor_read, cursor_step_spelled, entry_read, line_read}
use Rattle.hashlink_text.specs.Spelling.{cache_lines, pair_commands, weighted_lines, modes, cache_spelled}
use Rattle.hashlink_text.specs.Spelling.{pair_spelled, weighted_spelled, mode_spelled, commands, cursor_steps}
use Rattle.hashlink_text.specs.Spelling.{entry_steps, Name, Number, Said, Do, Cursor, spelled, step_spelled}
use Rattle.hashlink_text.specs.{Lines.number_of, Spelling.cursor_step_words, Tables.{Token, tokens}}
use Rattle.hashlink_text.specs.Reading.{numbers_after, read_in, read_words, some_steps, steps_after}
use Rattle.hashlink_text.specs.Reading.{EachNamed, IsRead, are_names, word_of, token_of}
use Rattle.hashlink_text.specs.Named.{pair_named, cache_named, weighted_named, mode_named}
use Rattle.hashlink_text.proofs.Grammar.{says_as, IsReader, IsOf, reads_names, SaysWhatIsRead, read_in-of}
use Rattle.hashlink_text.proofs.Grammar.{read_words-of, chosen, step_some, map_some}

-- ---- lines to caches, and the first line

pub reads_pairs : IsReader pair_spelled (read_words pair_spelled pair_commands)
reads_pairs = reads_names pair_spelled pair_commands pair_named.named pair_named.found

pub reads_cache : IsReader cache_spelled (read_words cache_spelled cache_lines)
reads_cache = reads_names cache_spelled cache_lines cache_named.named cache_named.found

pub reads_weighted : IsReader weighted_spelled (read_words weighted_spelled weighted_lines)
reads_weighted = reads_names weighted_spelled weighted_lines weighted_named.named weighted_named.found

pub reads_mode : IsReader mode_spelled (read_words mode_spelled modes)
reads_mode = reads_names mode_spelled modes mode_named.named mode_named.found

-- ---- lines to a map: the steps of an entry

entry_named : EachNamed step_spelled entry_steps
entry_named (v ∷ []) = refl
entry_named ns = refl

entry_of : (written : List (List ℕ)) (x : Said) → entry_read (tokens written) ≡ Some x
    → spelled x ≡ Some (Name (codes "entry") ∷ map word_of written)
entry_of [] x e = cc
entry_of (key ∷ written) x e =
    let read = read_words step_spelled entry_steps (tokens written) in
    let k = step_some (λ k. option_map (λ s. Do (Entry k s)) read) (number_of key) x e in
    let s = map_some (λ s. Do (Entry k.0 s)) read x k.2 in
    let words = read_words-of step_spelled entry_steps entry_named written s.0 s.1 in
    ap spelled (sym s.2) ∙ ap (option_map (λ ws. Name (codes "entry") ∷ Number k.0 ∷ ws)) words
    ∙ ap (λ o. Some (Name (codes "entry") ∷ option_map_or Number o (Name key) ∷ map word_of written))
    (sym k.1)

-- ---- the steps of a cursor

cursor_named : EachNamed cursor_step_spelled cursor_steps
cursor_named (k ∷ v ∷ []) = refl
cursor_named ns = refl

steps_of : (n : ℕ) (written : List (List ℕ)) (steps : List (CursorStep ℕ ℕ))
    → steps_after n (tokens written) ≡ Some steps
    → flat_map cursor_step_words steps ≡ map word_of (drop n written)
steps_of zero [] steps e = let none : [] ≡ steps = cc in rw (← none) refl
steps_of (suc n) [] steps e = let none : [] ≡ steps = cc in rw (← none) refl
steps_of (suc n) (word ∷ written) steps e = steps_of n written steps e
steps_of zero (name ∷ written) steps e =
    let m = numbers_after name in
    let later = steps_after m (tokens written) in
    let read : List Token → Option (CursorStep ℕ ℕ) = read_in cursor_step_spelled cursor_steps name in
    let token_at : List ℕ → Token = λ word. (word, number_of word) in
    let step = step_some (λ s. option_map (λ ss. s ∷ ss) later) (read (take m (tokens written))) steps e in
    let more = map_some (λ ss. step.0 ∷ ss) later steps step.2 in
    let first =
    read_in-of cursor_step_spelled cursor_steps cursor_named name (take m written) step.0
    (ap read (sym (take-map token_at m written)) ∙ step.1) in
    rw (← more.2) (ap₂ (λ a b. a ++ b) (same_Some _ _ first) (steps_of m written more.0 more.1)
    ∙ ap (λ ws. word_of name ∷ ws) (sym (map-append word_of (take m written) (drop m written))
    ∙ ap (map word_of) (take-append-drop m written)))

cursor_of : (written : List (List ℕ)) (x : Said) → cursor_read (tokens written) ≡ Some x
    → spelled x ≡ Some (Name (codes "cursor") ∷ map word_of written)
cursor_of written x e =
    let steps = step_some some_steps (steps_after 0 (tokens written)) x e in
    by steps.0 steps.2 (steps_of 0 written steps.0 steps.1)
  where
    by : (steps : List (CursorStep ℕ ℕ)) → some_steps steps ≡ Some x
        → flat_map cursor_step_words steps ≡ map word_of written
        → spelled x ≡ Some (Name (codes "cursor") ∷ map word_of written)
    by [] e is = cc
    by (step ∷ steps) e is =
        ap (option_and_then spelled) (sym e) ∙ ap (λ ws. Some (Name (codes "cursor") ∷ ws)) is

steps_found : (steps : List (CursorStep ℕ ℕ))
    → (are_names (flat_map cursor_step_words steps) ≡ true)
    × (steps_after 0 (map token_of (flat_map cursor_step_words steps)) ≡ Some steps)
steps_found [] = (refl, refl)
steps_found (Next ∷ steps) = let more = steps_found steps in (more.0, rw more.1 refl)
steps_found (step ∷ steps) = let more = steps_found steps in (more.0, rw more.1 refl)

-- ---- and all lines

commands_named : EachNamed spelled commands
commands_named (k ∷ v ∷ []) = refl
commands_named ns = refl

line_of : (written : List (List ℕ)) → IsOf spelled line_read written
line_of [] x e = cc
line_of (name ∷ written) x e =
    let plain = read_in spelled commands name (tokens written) in
    ⊎_elim (λ yes. rw ((bytes_eq-Decides name (codes "entry")).0 yes.0) (entry_of written x yes.1))
    (λ no.
    ⊎_elim (λ yes. rw ((bytes_eq-Decides name (codes "cursor")).0 yes.0) (cursor_of written x yes.1))
    (λ no. read_in-of spelled commands commands_named name written x no.1)
    (chosen (bytes_eq name (codes "cursor")) (cursor_read (tokens written)) plain (Some x) no.1))
    (chosen (bytes_eq name (codes "entry")) (entry_read (tokens written))
    (cond (bytes_eq name (codes "cursor")) (cursor_read (tokens written)) plain) (Some x) e)

line_found : (x : Said) → IsRead line_read (spelled x) x
line_found (Do (Entry k step.Get)) = (refl, refl)
line_found (Cursor []) = (refl, refl)
line_found (Cursor (step ∷ steps)) =
    let read = steps_found (step ∷ steps) in (read.0, ap (option_and_then some_steps) read.1)
line_found x = (refl, refl)

pub reads_line : IsReader spelled line_read
reads_line = record { empty = refl; from = line_of; to = line_found }

pub says_so : SaysWhatIsRead spelled line_read
says_so = says_as reads_line
