use Rattle.hashlink_run.proofs.Names.{[], ◌∷◌, ◌++◌, length, refl, sym, ap, ◌∙◌, append-nil, append_assoc}
use Rattle.hashlink_run.proofs.Names.{arith, rules, inl, inr, into_iter_items}
use Rattle.hashlink_core.specs.Keyed.{state_of}
use Rattle.hashlink_map.specs.Cursor.{cursor_state}
use Rattle.hashlink_run.proofs.CursorProgress.{WalksOn-first, WalksOn-step, WalksOn-end, read_from_first}
use Rattle.hashlink_run.proofs.cursors.walk_cursor.Goals as goal

pub loop-step-init : goal.loop-step-init
loop-step-init g c =
    let cursor = c.cursor_front_mut-cursor in
    let gives = c.into_iter-step-iterator.ensures.into_iter_gives.0 in (
      [],
      WalksOn-first _ _ (state_of c.args.map.now) (cursor_state cursor.result) c.args.steps.items _
          (ap state_of cursor.ensures.unchanged) cursor.ensures.first gives,
      sym (append-nil c.args.replies.now.items),
      refl,
      omega (arith, ap length gives),
      refl,
      λ pair read. c.requires.says pair (read_from_first _ _ _ _ _ _ (ap state_of cursor.ensures.unchanged)
          cursor.ensures.first gives pair read),
    )

pub reply_of_step-requires : goal.reply_of_step-requires
reply_of_step-requires g c =
    record { says = λ pair read. (rw c.in-Some.ensures.steps.0 at c.loop-step.invariant.6) pair (inl read) }

pub push_reserved-requires : goal.push_reserved-requires
push_reserved-requires g c =
    let so_far = c.loop-step.invariant in
    omega (arith, c.requires.room, so_far.4, so_far.5, ap length c.in-Some.ensures.steps.0)

pub loop-step-preserved : goal.loop-step-preserved
loop-step-preserved g c =
    let so_far = c.loop-step.invariant in
    let left = c.in-Some.ensures.steps.0 in
    let reply = c.reply_of_step.result in
    let pushed = c.push_reserved.ensures in (
      so_far.0 ++ reply ∷ [],
      WalksOn-step _ _ c.in-Some.step _ reply _ (rw left at so_far.1) c.reply_of_step.ensures.stepped,
      rw (pushed.items, so_far.2) (append_assoc c.args.replies.now.items so_far.0 (reply ∷ [])),
      rw c.reply_of_step.ensures.same_map so_far.3,
      omega (arith, so_far.4, ap length left, pushed.len),
      rw pushed.capacity so_far.5,
      λ pair read. (rw left at so_far.6) pair (inr (_, _, c.reply_of_step.ensures.stepped, read)),
    )

pub returns-clause-walked : goal.returns-clause-walked
returns-clause-walked g c =
    let so_far = c.loop-step.invariant in
    let left = c.loop-step.step-iterator in
    let none = sym left.rest.ok.0 ∙ c.in-None.ensures.steps.0 in (
      so_far.0,
      (
        cursor_state c.loop-step.cursor,
        WalksOn-end _ _ (into_iter_items left) none so_far.1,
        ap state_of (search (rules, so_far.3)),
      ),
      so_far.2,
    )

pub returns-clause-len : goal.returns-clause-len
returns-clause-len g c =
    let left = c.loop-step.step-iterator in
    let none = sym left.rest.ok.0 ∙ c.in-None.ensures.steps.0 in
    omega (arith, c.loop-step.invariant.4, none)
