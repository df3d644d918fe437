use Rattle.hashlink_curve.proofs.Names.{◌≡◌, ◌<◌, ◌+◌, true, sym, ap, ◌∙◌, subst, arith, rules, is_member}
use Rattle.hashlink_curve.proofs.Names.{Counted, CanCount, IsTallied, tallied, vec_len, vec_capacity}
use Rattle.hashlink_curve.proofs.Histories.{Counted-next, Touches-next}
use Rattle.hashlink_curve.proofs.curve.MissCurve.record.Goals.{In_ok-distance}
use Rattle.hashlink_curve.proofs.curve.MissCurve.record.Given as given
use Rattle.hashlink_curve.proofs.curve.MissCurve.record.Goals as goal

-- the use can be counted, and leaves this
touched : (g : given.Over) (c : In_ok-distance g)
    → CanCount c.in_ok-distance.distance c.reserve.new.self
    × IsTallied c.touch.new.self.keys (tallied c.in_ok-distance.distance c.reserve.new.self.items)
    (c.self.inside.accesses + 1)
    × (is_member g.K.PartialEq.eq c.touch.new.self.keys c.args.key ≡ true)
touched g c =
    let room : vec_len c.reserve.new.self < vec_capacity c.reserve.new.self = search rules in
    let before : IsTallied c.self.inside.recency.keys c.reserve.new.self.items c.self.inside.accesses
    = rw c.reserve.ensures.items c.self.invariant in
    Touches-next g.K.PartialEq.eq g.met.K.Eq.laws _ _ _ _ _ _ c.in_ok-distance.ensures.touched before
    (omega arith) room

pub count_use-requires : goal.count_use-requires
count_use-requires g c = record { countable = (touched g (goal.at.count_use-requires g c).In_ok-distance).0 }

pub invariant_of-self-2 : goal.invariant_of-self-2
invariant_of-self-2 g c =
    subst (λ ns. IsTallied c.touch.new.self.keys ns (c.self.inside.accesses + 1))
    (sym c.count_use.ensures.counts)
    (touched g (goal.at.invariant_of-self-2 g c).In_ok-distance).1

pub returns-clause-there : goal.returns-clause-there
returns-clause-there g c = (touched g (goal.at.returns-clause-there g c).In_ok-distance).2

pub returns-clause-counted : goal.returns-clause-counted
returns-clause-counted g c used h =
    Counted-next g.K.PartialEq.eq g.met.K.Eq.laws used _ _ c.args.key c.in_ok-distance.distance
    c.in_ok-distance.ensures.touched c.self.invariant.distances
    (c.count_use.ensures.counts ∙ ap (tallied c.in_ok-distance.distance) c.reserve.ensures.items)
    (subst (Counted g.K.PartialEq.eq used) (sym c.self.view_is) h)
