use Rattle.std.proofs.{Common.{ℕ, refl, ap, arith}, lemmas.List.Sorted.length_permutation}
use Rattle.hashlink_table.specs.Contents.{Contents, len_of}
use Rattle.test_calls.proofs.Numbered.{numbered_none, numbered_more, numbered_few}
use Rattle.test_calls.proofs.Telling.{tells-none, tells-more, tells-same}
use Rattle.test_calls.proofs.lower.numbered.Goals as goal

pub loop-number-init : goal.loop-number-init
loop-number-init c =
    let none = ap (λ (t : Contents ℕ). len_of t) c.new-table.ensures in (
      numbered_none c.new-table.result c.new-table.ensures,
      omega (arith, none),
      tells-none _ c.new-table.result c.new-table.ensures,
    )

pub loop-number-preserved : goal.loop-number-preserved
loop-number-preserved c =
    let i = c.insert_reserved.ensures in
    let reserved = c.in_ok-reserve.ensures in (
      numbered_more c.loop-number.table c.reserve.new.self c.insert_reserved.new.self c.loop-number.number
          c.loop-number.number c.loop-number.invariant.0 (omega arith) reserved.nodes i.inserted,
      omega (
        arith,
        length_permutation _ _ i.inserted,
        length_permutation _ _ reserved.nodes,
        i.room,
        reserved.ok,
      ),
      tells-more _ c.reserve.new.self c.insert_reserved.new.self _ i.inserted refl
          (tells-same _ c.loop-number.table c.reserve.new.self reserved.nodes c.loop-number.invariant.2),
    )

pub returns-clause-few : goal.returns-clause-few
returns-clause-few c = λ hash m low.
    numbered_few c.loop-number.table c.loop-number.number hash m c.loop-number.invariant.0
    (omega (arith, low, c.loop-number.invariant.1, c.loop-number.invariant.0.count, c.loop-number-test.false))

pub returns-clause-telling : goal.returns-clause-telling
returns-clause-telling c = c.loop-number.invariant.2
