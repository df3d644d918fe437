use Rattle.hashlink_set.proofs.Names.{◌≡◌, true, not, ap, sym, ◌∙◌, rules, eqb, elements_in, sifts}
use Rattle.hashlink_set.proofs.Names.{entries_of, is_some-lookup}
use Rattle.hashlink_set.proofs.Looking.{some_looks, none_looks, sifts_asked, sifted_steps}
use Rattle.hashlink_set.proofs.sifted.SiftedIterator.next.Goals as goal

pub loop-element-preserved : goal.loop-element-preserved
loop-element-preserved g c =
    let member = c.contains_key.ensures.found ∙ is_some-lookup (g.T.PartialEq.eq c.in-Some.element.now)
    (entries_of c.loop-element.self.other.now) in
    search (rules, member)

pub returns-then-contains_key-clause-steps : goal.returns-then-contains_key-clause-steps
returns-then-contains_key-clause-steps g c =
    let eq = g.T.PartialEq.eq in let asked = not (eqb g.row.HAS 0) in
    let inv = c.loop-element.invariant in
    let test = sifts eq asked (elements_in c.args.self.now.other.now) in
    let member = c.contains_key.ensures.found ∙ is_some-lookup (eq c.in-Some.element.now)
    (entries_of c.loop-element.self.other.now) in
    let passes : test c.in-Some.element.now ≡ true =
    ap (λ s. sifts eq asked (elements_in s) c.in-Some.element.now) (sym inv.1)
    ∙ sifts_asked eq asked _ c.in-Some.element.now _ member c.if-contains_key.true in
    sifted_steps eq asked c.args.self.now _ _ inv.1
    (some_looks test c.args.self.now.iter c.loop-element.self.iter c.next.new.self c.in-Some.element inv.0
    c.in-Some.ensures.steps passes)

pub returns-then-contains_key-clause-goes : goal.returns-then-contains_key-clause-goes
returns-then-contains_key-clause-goes g c =
    let steps = returns-then-contains_key-clause-steps g c in
    search (rules, steps.takes)

pub returns-clause-steps : goal.returns-clause-steps
returns-clause-steps g c =
    let inv = c.loop-element.invariant in
    sifted_steps g.T.PartialEq.eq (not (eqb g.row.HAS 0)) c.args.self.now _ _ inv.1
    (none_looks _ c.args.self.now.iter c.loop-element.self.iter c.next.new.self inv.0
    c.in_default.ensures.steps)
