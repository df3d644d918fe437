use Rattle.hashlink_curve.proofs.Names.{◌≡◌, ◌<◌, ◌+◌, true, sym, ap, ◌∙◌, subst, arith, rules, is_member}
use Rattle.hashlink_curve.proofs.Names.{list_any, Counted, CanCount, IsTallied, tallied, vec_len}
use Rattle.hashlink_curve.proofs.{Names.vec_capacity, Histories.{Counted-next, Counts-alike, Touches-next}}
use Rattle.hashlink_curve.proofs.curve.MissCurve.record_with.Goals.{In_ok-distance}
use Rattle.hashlink_curve.proofs.curve.MissCurve.record_with.Given as given
use Rattle.hashlink_curve.proofs.curve.MissCurve.record_with.Goals as goal

-- the use can be counted, and leaves this
touched : (g : given.Over) (c : In_ok-distance g)
    → CanCount c.in_ok-distance.distance c.reserve.new.self
    × IsTallied c.touch_with.new.self.keys (tallied c.in_ok-distance.distance c.reserve.new.self.items)
    (c.self.inside.accesses + 1)
    × (is_member g.K.PartialEq.eq c.touch_with.new.self.keys c.in_ok-distance.ensures.touched.key ≡ true)
touched g c =
    let room : vec_len c.reserve.new.self < vec_capacity c.reserve.new.self = search rules in
    let before : IsTallied c.self.inside.recency.keys c.reserve.new.self.items c.self.inside.accesses
    = rw c.reserve.ensures.items c.self.invariant in
    Touches-next g.K.PartialEq.eq g.met.K.Eq.laws _ _ _ _ _ _ c.in_ok-distance.ensures.touched.touched before
    (omega arith) room

pub count_use-requires : goal.count_use-requires
count_use-requires g c = record { countable = (touched g (goal.at.count_use-requires g c).In_ok-distance).0 }

pub invariant_of-self-2 : goal.invariant_of-self-2
invariant_of-self-2 g c =
    subst (λ ns. IsTallied c.touch_with.new.self.keys ns (c.self.inside.accesses + 1))
    (sym c.count_use.ensures.counts)
    (touched g (goal.at.invariant_of-self-2 g c).In_ok-distance).1

pub returns-clause-there : goal.returns-clause-there
returns-clause-there g c =
    ap (λ t. list_any t c.touch_with.new.self.keys) c.in_ok-distance.ensures.touched.tells
    ∙ (touched g (goal.at.returns-clause-there g c).In_ok-distance).2

pub returns-clause-counted : goal.returns-clause-counted
returns-clause-counted g c used k passes =
    let eq = g.K.PartialEq.eq in
    let laws = g.met.K.Eq.laws in
    let t = c.in_ok-distance.ensures.touched in
    Counts-alike eq laws used _ _ t.key k c.in_ok-distance.distance
    (ap (λ t. t k) (sym t.tells) ∙ passes)
    (λ h. Counted-next eq laws used _ _ t.key c.in_ok-distance.distance t.touched
    c.self.invariant.distances
    (c.count_use.ensures.counts ∙ ap (tallied c.in_ok-distance.distance) c.reserve.ensures.items)
    (subst (Counted eq used) (sym c.self.view_is) h))
