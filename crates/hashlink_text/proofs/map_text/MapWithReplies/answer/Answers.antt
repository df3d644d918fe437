use Rattle.std.proofs.Common.{◌≡◌, ◌++◌, ◌%◌, ℕ, List, Some, codes, nat_eq, refl, ap, ap₂, ◌∙◌, rules}
use Rattle.std.proofs.{Common.string_bytes, lemmas.Result.on_ok_weaker}
use Rattle.hashlink_core.specs.Keyed.{state_of}
use Rattle.hashlink_model.specs.MapState.{MapState}
use Rattle.hashlink_run.specs.declared.commands.{Command.Command, Command.TheVariants.Cursor}
use Rattle.hashlink_run.specs.{declared.replies.Reply.Reply, Keeps.IsEven, Step.Step}
use Rattle.hashlink_run.proofs.AnyCommand.{step-wider}
use Rattle.hashlink_text.specs.{declared.line.Line.TheVariants.Do, Spelling.said}
use Rattle.hashlink_text.specs.Transcript.{Shows, Itself, ended, form_of, replies_shown}
use Rattle.hashlink_text.proofs.map_text.MapWithReplies.answer.Goals as goal

-- the answer to a command that was read is its replies, including the replies to a cursor's steps
shows-command : {S : Type 0} (old new : MapState ℕ ℕ S) (command : Command ℕ ℕ)
    (replies : List (Reply ℕ ℕ (ℕ × ℕ))) → Step nat_eq Itself IsEven old command replies new
    → Shows old (Some (said (Do command))) (replies_shown (form_of command) replies) new
shows-command old new (Cursor steps) replies s = (replies, s, refl)
shows-command old new command replies s = (replies, s, refl)

pub returns-in-None : goal.returns-in-None
returns-in-None c =
    rw c.in-None.is
    (on_ok_weaker c.writeln.result (λ e. (codes "bad", (refl, refl), e)) c.writeln.ensures.bytes)

pub returns-in_ok-answer_command-in-Some-Do : goal.returns-in_ok-answer_command-in-Some-Do
returns-in_ok-answer_command-in-Some-Do c =
    let command = c.in-Some-Do.command in
    let answered = c.in_ok-answer_command-in-Some-Do.ensures.answered in
    let replies : c.deref.result.now ≡ answered.0 =
    c.deref.ensures.value ∙ answered.2 ∙ ap (λ old. old ++ answered.0) c.clear.ensures.items in
    let shown = ap₂ replies_shown c.form_of-form.ensures replies in
    let step = step-wider _ Itself
    (λ k v b s. let read : b ≡ (s.key.now, s.value.now) = search rules in
    read ∙ ap (λ x. (x, s.value.now)) s.shows.0 ∙ ap (λ y. (k, y)) s.shows.1) _ IsEven
    (λ k v b s. let even : b ≡ nat_eq (s.value.now % 2) 0 = search rules in
    even ∙ ap (λ y. nat_eq (y % 2) 0) s.shows.1) nat_eq
    (state_of c.args.self.now.map) answered.0 (state_of c.answer_command.new.map) command answered.1 in
    let shows = shows-command (state_of c.args.self.now.map) (state_of c.answer_command.new.map)
    command answered.0 step in
    rw (c.in-Some-Do.is, c.in-Some-Do.field-0-is)
    (on_ok_weaker c.push_replies.result
    (λ e. (
      replies_shown (form_of command) answered.0,
      shows,
      e ∙ ap (λ text. string_bytes c.args.out.now ++ ended text) shown,
    )) c.push_replies.ensures)
