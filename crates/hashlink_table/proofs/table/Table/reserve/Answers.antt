use Rattle.hashlink_table.proofs.Names.{ap, arith, Contents, len_of, ℕ, ◌*◌, ◌%◌, ◌/◌, ◌≡◌, ◌+◌, ◌∙◌}
use Rattle.std.proofs.Common.{⊎_elim, inl, inr, max, min}
use Rattle.std.{specs.Int.IsPowerOfTwo, proofs.lemmas.Bool.cases_lt}
use Rattle.hashlink_table.specs.Contents.{IsAmple}
use Rattle.hashlink_table.proofs.table.Table.reserve.Goals as goal

pub returns-then-additional-self-clause-ok : goal.returns-then-additional-self-clause-ok
returns-then-additional-self-clause-ok g c =
    omega (
      arith,
      c.self.invariant.counted,
      c.self.invariant.held,
      ap (λ (u : Contents g.row.N.Denot). len_of u) c.self.view_is,
      ap (λ (u : Contents g.row.N.Denot). u.room) c.self.view_is,
    )

-- the room is the smaller one of twice what is needed and seven eighths of the slots
ample : (n count room : ℕ) → IsPowerOfTwo count → count % 16 ≡ 0
    → room ≡ min (2 * max n 4) (count / 8 * 7) → IsAmple n room
ample n count room power whole is =
    let eighths : 8 * (count / 8) ≡ count = omega (arith, whole) in
    ⊎_elim (λ small. inl (omega (arith, is, small)))
    (λ large. inr (count, power, omega (arith, is, large, eighths)))
    (cases_lt (2 * max n 4) (count / 8 * 7))

pub returns-clause-ample : goal.returns-clause-ample
returns-clause-ample g c = λ _.
    let long : c.self.inside.len + c.args.additional ≡ len_of c.args.self.now + c.args.additional
    = omega (arith, c.self.invariant.counted, ap (λ (u : Contents g.row.N.Denot). len_of u) c.self.view_is) in
    let count = c.slots_for-count.result in
    ample _ count _ c.slots_for-count.ensures.power c.slots_for-count.ensures.grouped
    (c.in_ok-resize.ensures.ok ∙ c.min-room.ensures
    ∙ ap (λ m. min (2 * m) (count / 8 * 7)) (c.max.ensures ∙ ap (λ n. max n 4) long))
