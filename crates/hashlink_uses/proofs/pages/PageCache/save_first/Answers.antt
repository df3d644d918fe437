use Rattle.std.proofs.lemmas.Bool.{eqb-true}
use Rattle.hashlink.proofs.CallerLemmas.{lookup-takes_first}
use Rattle.hashlink_uses.proofs.Common.{arith, nat_eq, nat_eq_equiv}
use Rattle.hashlink_uses.proofs.pages.PageCache.save_first.Goals as goal

pub invariant_of-self : goal.invariant_of-self
invariant_of-self g c =
    let after = rw (← c.self-2.view_is) at c.in_ok-save.ensures in
    let sound = c.self-2.invariant in
    record {
      some = rw c.remove_lru.ensures.pops.cap sound.some;
      within = c.remove_lru.ensures.within 0 sound.within;
      clean = λ n.
          let found = lookup-takes_first nat_eq nat_eq_equiv n _ _ _ after.distinct
          c.remove_lru.ensures.entries in
          grind (arith, found, sound.clean n);
    }

pub returns-clause-unchanged : goal.returns-clause-unchanged
returns-clause-unchanged g c n =
    let after = rw (← c.self-2.view_is) at c.in_ok-save.ensures in
    let found = lookup-takes_first nat_eq nat_eq_equiv n _ _ _ after.distinct c.remove_lru.ensures.entries in
    grind (arith, found, after.unchanged n, after.saved, eqb-true c.in-Some.first.now n)
