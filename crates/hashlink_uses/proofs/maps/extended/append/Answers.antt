use Rattle.std.specs.{Iterator.Yields, Map.Iter.TakesFirst}
use Rattle.hashlink_uses.proofs.Common.{subst, on_ok_weaker, IfErr-weaker, state_of, InsertsPair}
use Rattle.hashlink_uses.proofs.Common.{extended_by_all, extended_until}
use Rattle.hashlink_uses.proofs.maps.extended.append.Goals as goal

pub returns-clause-all : goal.returns-clause-all
returns-clause-all g c =
    on_ok_weaker c.extend.result
    (extended_by_all (InsertsPair g.K.PartialEq.eq) _ (state_of c.args.map.now) (state_of c.extend.new.self))
    c.extend.ensures.all

pub returns-clause-stopped : goal.returns-clause-stopped
returns-clause-stopped g c =
    IfErr-weaker c.extend.result _ _
    (λ e h. (
      h.2,
      extended_until _ _ _ _ e.taken e.pair h.1 h.2
          (subst (λ es. Yields (TakesFirst (λ x. x)) es h.1 h.2) h.3 h.4) h.5,
    ))
    c.extend.ensures.stopped
