use Rattle.hashlink_curve.proofs.{Names.{sym, ◌∙◌, subst, Counted, reserved_uses}, Histories.Counted-accesses}
use Rattle.hashlink_curve.proofs.curve.MissCurve.accesses.Goals as goal

pub returns-clause-counted : goal.returns-clause-counted
returns-clause-counted g c used h =
    c.self.invariant.all
    ∙ Counted-accesses g.K.PartialEq.eq g.met.K.Eq.laws used
    (record {
      keys = c.self.inside.recency.keys;
      reuses = c.self.inside.reuses.items;
      reserved = reserved_uses c.self.inside.reuses c.self.inside.recency.free;
    })
    (subst (Counted g.K.PartialEq.eq used) (sym c.self.view_is) h)
