use Rattle.std.proofs.Common.{◌≡◌, ℕ, zero, suc, List, [], ◌∷◌, ◌++◌, take, drop, Option, None, Some}
use Rattle.std.{proofs.Common.{option_and_then, refl, sym, ap, ◌∙◌, append_assoc}, specs.Option.option_map}
use Rattle.hashlink_run.specs.declared.commands.CursorStep.{CursorStep}
use Rattle.hashlink_text.specs.{Lines.number_of, Spelling.cursor_steps, Tables.Token}
use Rattle.hashlink_text.specs.Reading.{cursor_step_spelled, numbers_after, read_in, steps_after}
use Rattle.hashlink_text.proofs.line.said_of_cursor.Goals as goal

steps_after-drop : (n : ℕ) (words : List Token) → steps_after n words ≡ steps_after 0 (drop n words)
steps_after-drop zero words = refl
steps_after-drop (suc n) [] = refl
steps_after-drop (suc n) (word ∷ words) = steps_after-drop n words

append_onto : {X : Type 0} (old : List X) (x : X) (more : Option (List X))
    → option_map (λ xs. old ++ xs) (option_map (λ xs. x ∷ xs) more)
    ≡ option_map (λ xs. (old ++ x ∷ []) ++ xs) more
append_onto old x None = refl
append_onto old x (Some xs) = ap Some (sym (append_assoc old (x ∷ []) xs))

-- one more step is read
steps_after-more : (name : Token) (words : List Token) (step : CursorStep ℕ ℕ) (old : List (CursorStep ℕ ℕ))
    → Some step ≡ read_in cursor_step_spelled cursor_steps name.0 (take (numbers_after name.0) words)
    → option_map (λ steps. old ++ steps) (steps_after 0 (name ∷ words))
    ≡ option_map (λ steps. (old ++ step ∷ []) ++ steps) (steps_after 0 (drop (numbers_after name.0) words))
steps_after-more name words step old e =
    let later = steps_after (numbers_after name.0) words in
    ap (λ o. option_map (λ steps. old ++ steps) (option_and_then (λ s. option_map (λ ss. s ∷ ss) later) o))
    (sym e)
    ∙ append_onto old step later
    ∙ ap (option_map (λ steps. (old ++ step ∷ []) ++ steps)) (steps_after-drop (numbers_after name.0) words)

pub loop-name-preserved : goal.loop-name-preserved
loop-name-preserved c =
    let read =
    steps_after-more (c.in-Some.name.now, number_of c.in-Some.name.now) _ c.in-Some-cursor_step.step
    c.loop-name.steps.items
    c.in-Some-cursor_step.ensures.said in
    rw (c.in_ok-push.ensures.items, c.in-Some-cursor_step.ensures.rest)
    (rw c.in-Some.ensures.steps at c.loop-name.invariant ∙ read)
