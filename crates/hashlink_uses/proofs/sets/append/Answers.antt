use Rattle.std.specs.{Iterator.Yields, Map.Iter.TakesFirst}
use Rattle.hashlink.specs.Sets.{SetInserts}
use Rattle.hashlink_uses.proofs.Common.{subst, on_ok_weaker, IfErr-weaker, extended_by_all, extended_until}
use Rattle.hashlink_uses.proofs.sets.append.Goals as goal

pub returns-clause-all : goal.returns-clause-all
returns-clause-all g c =
    on_ok_weaker c.extend.result
    (extended_by_all (SetInserts g.T.PartialEq.eq) _ c.args.words.now c.extend.new.self) c.extend.ensures.all

pub returns-clause-stopped : goal.returns-clause-stopped
returns-clause-stopped g c =
    IfErr-weaker c.extend.result _ _
    (λ e h. (
      h.2,
      extended_until _ _ _ _ e.taken e.pair.0 h.1 h.2
          (subst (λ es. Yields (TakesFirst (λ x. x)) es h.1 h.2) h.3 h.4) h.5,
    ))
    c.extend.ensures.stopped
