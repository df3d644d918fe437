use Rattle.std.proofs.Common.{rules, [], ◌∷◌, Some, None, refl, sym, ap, ◌∙◌, is_ok, Ok, Err, ⊎_elim}
use Rattle.hashlink_core.specs.Keyed.{state_of}
use Rattle.hashlink_run.proofs.AtEntry.{at_occupied, at_vacant, added, taken, there, there_at_end}
use Rattle.hashlink_run.specs.declared.replies.Reply.TheVariants.{Value, Pair, Seen, Refused}
use Rattle.hashlink_run.{specs.Reads.ClosureSays, proofs.AtEntry.there_at_front}
use Rattle.hashlink_run.proofs.entries.reply_of_entry.Goals as goal

pub said_of_entry-requires : goal.said_of_entry-requires
said_of_entry-requires g c = record {
  says = λ pair read.
      let found = sym (there g.K.PartialEq.eq c.in-Occupied.ensures.entry _ _ refl refl) ∙ read in
      c.requires.says pair (rw c.in-Get.is found);
}

pub said_of_entry-requires-in-OrInsert : goal.said_of_entry-requires-in-OrInsert
said_of_entry-requires-in-OrInsert g c = record {
  says = λ pair read.
      let e = c.in-Occupied.ensures.entry in
      let moved =
      there_at_end g.K.PartialEq.eq e _ _ refl refl _ _ c.to_back.ensures.moves
      (ap (λ e. e.place) c.to_back.ensures.stands) in
      let found = sym (there g.K.PartialEq.eq e _ _ refl refl) ∙ sym moved ∙ read in
      c.requires.says pair
      (⊎_elim (λ given. rw given.1 found) (λ given. rw given found) c.in-OrInsert.is);
}

pub said_of_entry-requires-in-ToFront : goal.said_of_entry-requires-in-ToFront
said_of_entry-requires-in-ToFront g c = record {
  says = λ pair read.
      let e = c.in-Occupied.ensures.entry in
      let moved =
      there_at_front g.K.PartialEq.eq e _ _ refl refl _ _ c.to_front.ensures.moves
      (ap (λ e. e.place) c.to_front.ensures.stands) in
      let found = sym (there g.K.PartialEq.eq e _ _ refl refl) ∙ sym moved ∙ read in
      c.requires.says pair (rw c.in-ToFront.is found);
}

pub returns-in-OrInsert : goal.returns-in-OrInsert
returns-in-OrInsert g c =
    let eq = g.K.PartialEq.eq in
    let Says = ClosureSays g.F.Fn c.args.says.now in
    let e = c.in-Occupied.ensures.entry in
    let b = c.said_of_entry-in-OrInsert.result in
    let new = state_of c.to_back.new.self.map.now in
    let moves = c.to_back.ensures.moves in
    let moved = there_at_end eq e _ _ refl refl new _ moves (ap (λ e. e.place) c.to_back.ensures.stands) in
    let said = rw moved at c.said_of_entry-in-OrInsert.ensures.said in
    let step =
    ⊎_elim
    (λ given. at_occupied eq Says e given.1 (Seen (Some b) ∷ []) new refl (moves, (Some b, said, refl)))
    (λ given. at_occupied eq Says e given (Seen (Some b) ∷ []) new refl (moves, (Some b, said, refl)))
    c.in-OrInsert.is in
    let same = sym c.said_of_entry-in-OrInsert.ensures.unchanged in
    let done = rw same at step in
    search rules

pub returns-in-InsertEntry : goal.returns-in-InsertEntry
returns-in-InsertEntry g c =
    let step =
    at_occupied g.K.PartialEq.eq (ClosureSays g.F.Fn c.args.says.now) c.in-Occupied.ensures.entry
    c.in-InsertEntry.is (Pair (Some c.insert_entry.result) ∷ []) (state_of c.insert_entry.new.self.0) refl
    (c.insert_entry.result, c.insert_entry.ensures.inserts, refl) in
    search rules

pub returns-in-ReplaceEntry : goal.returns-in-ReplaceEntry
returns-in-ReplaceEntry g c =
    let step =
    at_occupied g.K.PartialEq.eq (ClosureSays g.F.Fn c.args.says.now) c.in-Occupied.ensures.entry
    c.in-ReplaceEntry.is (Pair (Some c.replace_entry.result) ∷ []) (state_of c.replace_entry.new.self.0) refl
    (c.replace_entry.result, c.replace_entry.ensures.replaces, refl) in
    search rules

pub returns-in-Remove : goal.returns-in-Remove
returns-in-Remove g c =
    let t = taken _ (state_of c.remove.new.self.0) _ _ c.remove.ensures.value c.remove.ensures.removes in
    let step =
    at_occupied g.K.PartialEq.eq (ClosureSays g.F.Fn c.args.says.now) c.in-Occupied.ensures.entry
    c.in-Remove.is (Value (Some c.remove.result) ∷ []) (state_of c.remove.new.self.0) refl
    (t.0, t.1, ap (λ v. Value (Some v) ∷ []) t.2) in
    search rules

pub returns-in-Occupied : goal.returns-in-Occupied
returns-in-Occupied g c =
    let step =
    at_occupied g.K.PartialEq.eq (ClosureSays g.F.Fn c.args.says.now) c.in-Occupied.ensures.entry
    c.in-RemoveEntry.is (Pair (Some c.remove_entry.result) ∷ []) (state_of c.remove_entry.new.self.0) refl
    (c.remove_entry.result, c.remove_entry.ensures.takes, refl) in
    search rules

pub returns-in-Ok : goal.returns-in-Ok
returns-in-Ok g c =
    let lent = c.insert.follows in let value = c.in-Ok._value.now in
    let adds = lent.holds value (ap is_ok c.in-Ok.is) in
    let step =
    at_vacant g.K.PartialEq.eq (ClosureSays g.F.Fn c.args.says.now) c.in-Vacant.ensures.entry
    c.in-OrInsert-step.is (Seen None ∷ []) (state_of (lent.lender value)) refl
    (Ok tt, added c.in-Ok.ensures.value adds, refl) in
    search rules

pub returns-in-OrInsert-step : goal.returns-in-OrInsert-step
returns-in-OrInsert-step g c =
    let lent = c.insert.follows in let pair = c.in-Err.pair in
    let step =
    at_vacant g.K.PartialEq.eq (ClosureSays g.F.Fn c.args.says.now) c.in-Vacant.ensures.entry
    c.in-OrInsert-step.is (Refused pair.0 pair.1 ∷ []) (state_of lent.lender-at-none) refl
    (Err pair, rw c.in-Err.is at lent.holds-at-none, refl) in
    search rules

pub returns-in-Ok-insert : goal.returns-in-Ok-insert
returns-in-Ok-insert g c =
    let lent = c.insert-in-Insert-step.follows in let value = c.in-Ok-insert._value.now in
    let adds = lent.holds value (ap is_ok c.in-Ok-insert.is) in
    let step =
    at_vacant g.K.PartialEq.eq (ClosureSays g.F.Fn c.args.says.now) c.in-Vacant.ensures.entry
    c.in-Insert-step.is (Value None ∷ []) (state_of (lent.lender value)) refl
    (Ok tt, added c.in-Ok-insert.ensures.value adds, refl) in
    search rules

pub returns-in-Insert-step : goal.returns-in-Insert-step
returns-in-Insert-step g c =
    let lent = c.insert-in-Insert-step.follows in let pair = c.in-Err-insert.pair in
    let step =
    at_vacant g.K.PartialEq.eq (ClosureSays g.F.Fn c.args.says.now) c.in-Vacant.ensures.entry
    c.in-Insert-step.is (Refused pair.0 pair.1 ∷ []) (state_of lent.lender-at-none) refl
    (Err pair, rw c.in-Err-insert.is at lent.holds-at-none, refl) in
    search rules

pub returns-in-Ok-insert-2 : goal.returns-in-Ok-insert-2
returns-in-Ok-insert-2 g c =
    let lent = c.insert-in-InsertEntry-step.follows in let value = c.in-Ok-insert-2._value.now in
    let adds = lent.holds value (ap is_ok c.in-Ok-insert-2.is) in
    let step =
    at_vacant g.K.PartialEq.eq (ClosureSays g.F.Fn c.args.says.now) c.in-Vacant.ensures.entry
    c.in-InsertEntry-step.is (Pair None ∷ []) (state_of (lent.lender value)) refl
    (Ok tt, added c.in-Ok-insert-2.ensures.value adds, refl) in
    search rules

pub returns-in-InsertEntry-step : goal.returns-in-InsertEntry-step
returns-in-InsertEntry-step g c =
    let lent = c.insert-in-InsertEntry-step.follows in let pair = c.in-Err-insert-2.pair in
    let step =
    at_vacant g.K.PartialEq.eq (ClosureSays g.F.Fn c.args.says.now) c.in-Vacant.ensures.entry
    c.in-InsertEntry-step.is (Refused pair.0 pair.1 ∷ []) (state_of lent.lender-at-none) refl
    (Err pair, rw c.in-Err-insert-2.is at lent.holds-at-none, refl) in
    search rules
