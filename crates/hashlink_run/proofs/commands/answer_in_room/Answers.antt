use Rattle.std.proofs.Common.{rules, [], ◌∷◌, refl, ap, sym, ◌∙◌}
use Rattle.hashlink_run.proofs.MovedToEnd.{first_of-new, last_of-new, moves_unwritten, unmoved}
use Rattle.hashlink_run.proofs.commands.answer_in_room.Goals as goal

pub walk_cursor-requires-clause-says : goal.walk_cursor-requires-clause-says
walk_cursor-requires-clause-says g c = rw c.in-Cursor.is at c.requires.says

pub keep_where-requires : goal.keep_where-requires
keep_where-requires g c =
    record { keep = λ pair is. c.requires.keep pair (record { asks = rw c.in-Keep.is is.stands }) }

pub said_of-requires : goal.said_of-requires
said_of-requires g c = record {
  says = λ pair read.
      (rw c.in-Get.is at c.requires.says) pair (sym c.get_key_value.ensures.found ∙ read);
}

pub said_of-requires-in-Front : goal.said_of-requires-in-Front
said_of-requires-in-Front g c = record {
  says = λ pair read.
      (rw c.in-Front.is at c.requires.says) pair (sym c.front-in-Front.ensures.found ∙ read);
}

pub said_of-requires-in-Back : goal.said_of-requires-in-Back
said_of-requires-in-Back g c = record {
  says = λ pair read.
      (rw c.in-Back.is at c.requires.says) pair (sym c.back-in-Back.ensures.found ∙ read);
}

pub reply_of_entry-reply-requires : goal.reply_of_entry-reply-requires
reply_of_entry-reply-requires g c = record { says = rw c.in-Entry.is at c.requires.says }

pub said_of-requires-in-Some : goal.said_of-requires-in-Some
said_of-requires-in-Some g c = record {
  says = λ pair read.
      let at_end =
      first_of-new g.met.K.Eq.laws c.in-ToFront.key c.to_front.ensures.distinct (sym c.in-Some.ensures.value)
      (c.to_front.follows.holds c.in-Some._value.now) refl in
      (rw c.in-ToFront.is at c.requires.says) pair (sym at_end ∙ sym c.front.ensures.found ∙ read);
}

pub said_of-requires-in-Some-to_back : goal.said_of-requires-in-Some-to_back
said_of-requires-in-Some-to_back g c = record {
  says = λ pair read.
      let at_end =
      last_of-new g.met.K.Eq.laws c.in-ToBack.key c.to_back.ensures.distinct
      (sym c.in-Some-to_back.ensures.value) (c.to_back.follows.holds c.in-Some-to_back._value.now) refl in
      (rw c.in-ToBack.is at c.requires.says) pair (sym at_end ∙ sym c.back.ensures.found ∙ read);
}

pub returns-clause-answered : goal.returns-clause-answered
returns-clause-answered g c =
    let laws = g.met.K.Eq.laws in (
      c.match-command.reply ∷ [],
      elim c.match-command.branch [
        | goal.in-Insert w ↦ rw (w.in-Insert.is, w.map-is, w.reply-is) (search rules)
        | goal.in-InsertFront w ↦ rw (w.in-InsertFront.is, w.map-is, w.reply-is) (search rules)
        | goal.in-Replace w ↦ rw (w.in-Replace.is, w.map-is, w.reply-is) (search rules)
        | goal.in-Get w ↦ rw (w.in-Get.is, w.map-is, w.reply-is) (search rules)
        | goal.in-Remove w ↦ rw (w.in-Remove.is, w.map-is, w.reply-is) (search rules)
        | goal.in-RemoveEntry w ↦ rw (w.in-RemoveEntry.is, w.map-is, w.reply-is) (search rules)
        | goal.in-PopFront w ↦ rw (w.in-PopFront.is, w.map-is, w.reply-is) (search rules)
        | goal.in-PopBack w ↦ rw (w.in-PopBack.is, w.map-is, w.reply-is) (search rules)
        | goal.in-ToFront w ↦ rw (w.in-ToFront.is, w.map-is, w.reply-is) (elim w.match-to_front.branch [
          | goal.in-Some w' ↦
              let found = sym w'.in-Some.ensures.value in
              let moved = w.to_front.follows.holds w'.in-Some._value.now in
              let at_end = first_of-new laws w.in-ToFront.key w.to_front.ensures.distinct found moved refl in
              let said = rw (w'.front.ensures.found ∙ at_end) at w'.said_of-in-Some.ensures in
              rw (w'.map-is, w'.reply-is)
              (moves_unwritten laws w.in-ToFront.key w.to_front.ensures.distinct found moved, (_, said, refl))
          | goal.in-None w' ↦ rw (w'.map-is, w'.reply-is)
              (unmoved g.K.PartialEq.eq _ _ _ w.in-ToFront.key _ (sym w'.in-None.ensures.value)
              w.to_front.follows.holds-at-none)
        ])
        | goal.in-ToBack w ↦ rw (w.in-ToBack.is, w.map-is, w.reply-is) (elim w.match-to_back.branch [
          | goal.in-Some-to_back w' ↦
              let found = sym w'.in-Some-to_back.ensures.value in
              let moved = w.to_back.follows.holds w'.in-Some-to_back._value.now in
              let at_end = last_of-new laws w.in-ToBack.key w.to_back.ensures.distinct found moved refl in
              let said = rw (w'.back.ensures.found ∙ at_end) at w'.said_of-in-Some-to_back.ensures in
              rw (w'.map-is, w'.reply-is)
              (moves_unwritten laws w.in-ToBack.key w.to_back.ensures.distinct found moved, (_, said, refl))
          | goal.in-None-to_back w' ↦ rw (w'.map-is, w'.reply-is)
              (unmoved g.K.PartialEq.eq _ _ _ w.in-ToBack.key _ (sym w'.in-None-to_back.ensures.value)
              w.to_back.follows.holds-at-none)
        ])
        | goal.in-Front w ↦ rw (w.in-Front.is, w.map-is, w.reply-is) (search rules)
        | goal.in-Back w ↦ rw (w.in-Back.is, w.map-is, w.reply-is) (search rules)
        | goal.in-Len w ↦ rw (w.in-Len.is, w.map-is, w.reply-is) (search rules)
        | goal.in-Clear w ↦ rw (w.in-Clear.is, w.map-is, w.reply-is) (search rules)
        | goal.in-Shrink w ↦ rw (w.in-Shrink.is, w.map-is, w.reply-is)
            (_, w.shrink_to_fit.ensures, ap (λ r. r ∷ []) w.shrink_reply-reply.ensures)
        | goal.in-Keep w ↦ rw (w.in-Keep.is, w.map-is, w.reply-is) (search rules)
        | goal.in-Entry w ↦ rw (w.in-Entry.is, w.map-is, w.reply-is) (search rules)
      ],
      c.push_reserved.ensures.items,
    )
