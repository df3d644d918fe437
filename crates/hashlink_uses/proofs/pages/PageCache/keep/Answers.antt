use Rattle.std.proofs.lemmas.Bool.{eqb-true}
use Rattle.hashlink.proofs.CallerLemmas.{lookup-cache_inserts}
use Rattle.hashlink_uses.proofs.Common.{arith, nat_eq, nat_eq_equiv}
use Rattle.hashlink_uses.proofs.pages.PageCache.keep.Goals as goal

pub invariant_of-self-2 : goal.invariant_of-self-2
invariant_of-self-2 g c =
    let after = rw (← c.self.view_is) at c.in_default.ensures in
    let sound = c.self.invariant in
    record {
      some = rw c.insert.ensures.inserts.cap sound.some;
      within = c.insert.ensures.within 0 sound.within;
      clean = λ n.
          let found = lookup-cache_inserts nat_eq nat_eq_equiv n _ _ c.args.number c.args.page c.in-Ok.field-0
          c.in-Ok.ensures.inserts after.distinct sound.within sound.some in
          let same = eqb-true c.args.number n in
          grind (arith, found, after.pages, after.unchanged n, sound.clean n, c.requires.stored, same);
    }

pub returns-clause-kept : goal.returns-clause-kept
returns-clause-kept g c n =
    let after = rw (← c.self.view_is) at c.in_default.ensures in
    let found = lookup-cache_inserts nat_eq nat_eq_equiv n _ _ c.args.number c.args.page c.in-Ok.field-0
    c.in-Ok.ensures.inserts after.distinct c.self.invariant.within c.self.invariant.some in
    grind (arith, found, after.unchanged n, after.saved)
