use Rattle.std.proofs.Common.{ap, sym, ◌∙◌}
use Rattle.hashlink_model.specs.Cursor.{entry_in}
use Rattle.hashlink_run.proofs.cursors.reply_of_step.Goals as goal

pub said_of-requires : goal.said_of-requires
said_of-requires g c = record {
  says = λ pair read.
      let there = c.current_pair.ensures ∙ ap (λ s. entry_in s s.place) c.move_next.ensures.moves in
      (rw c.in-Next.is at c.requires.says) pair (sym there ∙ read);
}

pub said_of-requires-in-Prev : goal.said_of-requires-in-Prev
said_of-requires-in-Prev g c = record {
  says = λ pair read.
      let there = c.current_pair-in-Prev.ensures ∙ ap (λ s. entry_in s s.place) c.move_prev.ensures.moves in
      (rw c.in-Prev.is at c.requires.says) pair (sym there ∙ read);
}

pub said_of-requires-in-Current : goal.said_of-requires-in-Current
said_of-requires-in-Current g c = record {
  says = λ pair read.
      (rw c.in-Current.is at c.requires.says) pair (sym c.current_pair-in-Current.ensures ∙ read);
}

pub said_of-requires-in-PeekNext : goal.said_of-requires-in-PeekNext
said_of-requires-in-PeekNext g c = record {
  says = λ pair read.
      (rw c.in-PeekNext.is at c.requires.says) pair (sym c.next_pair.ensures ∙ read);
}

pub said_of-requires-in-PeekPrev : goal.said_of-requires-in-PeekPrev
said_of-requires-in-PeekPrev g c = record {
  says = λ pair read.
      (rw c.in-PeekPrev.is at c.requires.says) pair (sym c.prev_pair.ensures ∙ read);
}
