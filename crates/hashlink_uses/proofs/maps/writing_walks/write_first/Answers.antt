use Rattle.hashlink.proofs.Walking.{walk-ends}
use Rattle.hashlink.proofs.Found.{no-value-left}
use Rattle.hashlink_uses.proofs.Common.{rules, ap, arith, length, ◌∙◌, entries_of, with_value, on-some}
use Rattle.hashlink_uses.proofs.maps.writing_walks.write_first.Goals as goal

pub returns-clause-written : goal.returns-clause-written
returns-clause-written g c _ =
    let v = c.args.value in
    let told = on-some c.in-Some.is (c.next_value.follows.holds v).0 in
    walk-ends (c.next_value.follows.lender v).map.now (search rules)
    (ap (λ s. s.map) told.1 ∙ ap (λ s. with_value s.map s.at v) c.iter_mut-walk.ensures.rest)

pub returns-in_default-clause-none : goal.returns-in_default-clause-none
returns-in_default-clause-none g c _ = no-value-left (entries_of c.args.map.now) (search rules)

pub returns-clause-some : goal.returns-clause-some
returns-clause-some g c _ none =
    let left = ap (λ s. s.left) c.iter_mut-walk.ensures.rest in
    omega (arith, c.in-Some.ensures.left, left, ap length none)
