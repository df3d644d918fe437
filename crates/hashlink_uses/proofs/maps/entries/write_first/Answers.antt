use Rattle.std.{proofs.Common.ap₂, specs.Prelude.OnSome}
use Rattle.hashlink.specs.MapCursor.{CursorWritten, cursor_state}
use Rattle.hashlink.proofs.Found.{no-value-first}
use Rattle.hashlink_uses.proofs.Common.{◌∙◌, ap, subst, rules, with_value, entries_of, state_of}
use Rattle.hashlink_uses.proofs.maps.entries.write_first.Goals as goal

pub returns-in-Some-clause-there : goal.returns-in-Some-clause-there
returns-in-Some-clause-there g c ok =
    let made = c.cursor_front_mut-cursor in
    let f = c.current_value.follows in
    let w = c.args.value in
    let at = (cursor_state made.result).place in
    let written = subst (λ o. OnSome o (CursorWritten made.result (f.lender w) at w))
    c.in-Some.is (f.holds w) in
    (search rules) ∙ ap (λ s. s.map) written.1
    ∙ ap₂ (λ m i. with_value (state_of m) i w) made.ensures.unchanged made.ensures.first

pub returns-in-None-clause-none : goal.returns-in-None-clause-none
returns-in-None-clause-none g c _ = no-value-first (entries_of c.args.map.now) (search rules)

pub returns-in-None-clause-unchanged : goal.returns-in-None-clause-unchanged
returns-in-None-clause-unchanged g c _ =
    let none = c.current_value.follows.holds-at-none in
    ap state_of ((search rules) ∙ none.1 ∙ c.cursor_front_mut-cursor.ensures.unchanged)
