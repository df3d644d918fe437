use Rattle.hashlink_set.{proofs.Names.{◌≤◌, length, not, sym, subst, eqb}, specs.Walks.sifted_rest}
use Rattle.hashlink_model.proofs.LazyWalks.{length-filter-le}
use Rattle.hashlink_set.proofs.sifted.SiftedIterator.size_hint.Goals as goal

pub returns-clause-upper : goal.returns-clause-upper
returns-clause-upper g c =
    let w = c.args.self.now in
    let asked = not (eqb g.row.HAS 0) in (
      tt,
      subst (λ n. length (sifted_rest g.T.PartialEq.eq asked w) ≤ n) (sym c.len.ensures.value)
          (length-filter-le _ w.iter),
    )
