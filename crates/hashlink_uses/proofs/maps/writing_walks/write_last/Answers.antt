use Rattle.std.proofs.Common.{◌≡◌, ◌+◌, ◌-◌, rules, ap, arith, length, ◌∙◌}
use Rattle.hashlink.specs.{MapState.with_value, Keyed.{state_of, entries_of}, WritingWalk.last_place}
use Rattle.hashlink.proofs.Walking.{on-some, walk-ends}
use Rattle.hashlink_uses.proofs.maps.writing_walks.write_last.Goals as goal

pub returns-clause-written : goal.returns-clause-written
returns-clause-written g c _ =
    let v = c.args.value in
    let told = on-some c.in-Some.is (c.next_value_back.follows.holds v).0 in
    let n = length (entries_of c.args.map.now) in
    let last : 0 + n - 1 ≡ n - 1 = omega arith in
    walk-ends (c.next_value_back.follows.lender v).map.now (search rules)
    (ap (λ s. s.map) told.1 ∙ ap (λ s. with_value s.map (last_place s) v) c.iter_mut-walk.ensures.rest
    ∙ ap (λ j. with_value (state_of c.args.map.now) j v) last)

pub returns-clause-some : goal.returns-clause-some
returns-clause-some g c _ none =
    let left = ap (λ s. s.left) c.iter_mut-walk.ensures.rest in
    omega (arith, c.in-Some.ensures.left, left, ap length none)
