use Rattle.hashlink_uses.proofs.Common.{refl, on_ok_weaker, IfErr-weaker, state_of, InsertsPair}
use Rattle.hashlink_uses.proofs.Common.{extended_by_all, extended_until}
use Rattle.hashlink_uses.proofs.maps.extended.append_rest.Goals as goal

pub returns-clause-all : goal.returns-clause-all
returns-clause-all g c =
    on_ok_weaker c.extend_from.result
    (λ h. extended_by_all (InsertsPair g.K.PartialEq.eq) _ (state_of c.args.map.now)
    (state_of c.extend_from.new.self) (c.args.rest.now, h.0, _, refl, h.1, h.2))
    c.extend_from.ensures.all

pub returns-clause-stopped : goal.returns-clause-stopped
returns-clause-stopped g c =
    IfErr-weaker c.extend_from.result _ _
    (λ e h. extended_until _ _ _ _ e.taken e.pair h.0 c.extend_from.new.iter h.1 h.2)
    c.extend_from.ensures.stopped
