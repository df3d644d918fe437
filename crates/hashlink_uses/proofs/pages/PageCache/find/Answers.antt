use Rattle.hashlink.proofs.CallerLemmas.{lookup-moved}
use Rattle.hashlink_uses.proofs.Common.{nat_eq, nat_eq_equiv}
use Rattle.hashlink_uses.proofs.pages.PageCache.find.Goals as goal

pub invariant_of-self : goal.invariant_of-self
invariant_of-self g c =
    let got = c.get.follows.holds-at-none in
    record {
      some = rw got.0.cap c.self.invariant.some;
      within = got.1 0 c.self.invariant.within;
      clean = λ n. rw (got.2, lookup-moved nat_eq nat_eq_equiv n _ c.args.number _ c.get.ensures.distinct)
          (c.self.invariant.clean n);
    }

pub returns-clause-unchanged : goal.returns-clause-unchanged
returns-clause-unchanged g c n =
    rw (← c.self.view_is, c.get.follows.holds-at-none.2)
    (lookup-moved nat_eq nat_eq_equiv n _ c.args.number _ c.get.ensures.distinct)
