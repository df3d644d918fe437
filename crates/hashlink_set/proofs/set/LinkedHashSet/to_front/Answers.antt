use Rattle.hashlink_core.specs.Keyed.{state_of}
use Rattle.hashlink_set.proofs.{Moved.moved-element, Names.Some, Updated.{keeps_moved, keeps_same}}
use Rattle.hashlink_set.proofs.set.LinkedHashSet.to_front.Goals as goal

pub returns : goal.returns
returns g c =
    let eq = g.T.PartialEq.eq in let laws = g.met.T.Eq.laws in
    let test = g.Q.Equivalent.matches c.args.value in
    let tells = g.met.Q.Equivalent.finds_equal c.args.value in
    let old = state_of c.self.inside.map in
    elim c.match-to_front.branch [
      | goal.in-Some w ↦ (
          let lent = w.in-Some.field-0.now in let new = state_of (c.to_front.follows.lender lent) in
          let moves = moved-element test old new _ w.in-Some.ensures.value (c.to_front.follows.holds lent) in
          rw (← c.self.view_is, w.result-is, w.self-inside-is) (record {
            moves = moves;
            keeps = keeps_moved eq laws test tells old new _ (Some tt) c.to_front.ensures.distinct moves;
          }))
      | goal.in-None w ↦ (
          let same = c.to_front.follows.holds-at-none in
          rw (← c.self.view_is, w.result-is, w.self-inside-is) (record {
            moves = record { answer = w.in-None.ensures.value; step = same };
            keeps = keeps_same eq laws test tells old (state_of c.to_front.follows.lender-at-none) same;
          }))
    ]
