use Rattle.std.proofs.Common.{◌≡◌, ◌∙◌, ◌++◌, List, Option, Result, Ok, Err, ap, ap₂, arith, is_some, sym}
use Rattle.std.specs.{Option.option_to_list, Prelude.{IfOk, OnOk}}
use Rattle.hashlink.proofs.{CallerLemmas.pushed_absent, Joined.{apart-pushed, apart-written}}
use Rattle.hashlink_uses.proofs.segments.SegmentedCache.insert.Goals as goal

pub invariant_of-self : goal.invariant_of-self
invariant_of-self g c = record {
  on_probation = c.args.self.now.on_probation;
  fits = c.renew.ensures.within 0 c.args.self.now.fits;
  apart = apart-written g.met.K.Eq.laws _ _ _ c.args.key _ c.args.self.now.apart
      (ap is_some (sym c.in-Some.ensures.old)) c.in-Some.ensures.lookups;
}

pub invariant_of-self-2 : goal.invariant_of-self-2
invariant_of-self-2 g c = record {
  on_probation = c.push.ensures.within 0 c.args.self.now.on_probation;
  fits = c.renew.ensures.within 0 c.args.self.now.fits;
  apart = rw (ap (λ s. s.map.entries) (c.renew.ensures.absent c.in_default.is))
      (apart-pushed g.met.K.Eq.laws _ _ _ c.args.key c.args.value _ c.args.self.now.apart
      c.push.ensures.pushes c.push.ensures.updates (sym c.in_default.ensures.old));
}

-- what a push returned, and what it left
by_result : {X E : Type 0} (r : Result (Option X) E) (out : Option X) (new left all : List X)
    → IfOk r (λ o. o ≡ out) → OnOk r (new ≡ left) → option_to_list out ++ left ≡ all
    → IfOk r (λ o. option_to_list o ++ new ≡ all)
by_result (Ok o) out new left all is kept whole = ap₂ (λ x y. option_to_list x ++ y) is kept ∙ whole
by_result (Err e) out new left all is kept whole = tt

pub returns-clause-absent : goal.returns-clause-absent
returns-clause-absent g c = λ none gone.
    by_result _ _ _ _ _ c.push.ensures.left c.push.ensures.entries
    (pushed_absent g.K.PartialEq.eq _ _ c.args.key c.args.value none
    (omega (arith, c.args.self.now.on_probation)))
