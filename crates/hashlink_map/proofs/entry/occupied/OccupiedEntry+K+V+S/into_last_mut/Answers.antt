use Rattle.std.proofs.Common.{refl}
use Rattle.hashlink_model.proofs.Updates.{updates-put}
use Rattle.hashlink_map.proofs.AtNode.{moves-and-writes, moved-value}
use Rattle.hashlink_map.proofs.entry.occupied.OccupiedEntry+K+V+S.into_last_mut.Goals as goal

pub returns : goal.returns
returns g c =
    let o = c.args.self in let e = c.move_to_back.ensures in
    let put = moves-and-writes g.K.PartialEq.eq _ c.move_to_back.new.self o.key _
    o.stands.place o.node e.moves e.stays.place in (
      (refl, λ w _. put w, tt),
      record {
        lends = tt;
        updates = λ w. updates-put g.K.PartialEq.eq g.met.K.Eq.laws _ o.key w _ e.distinct;
        value = moved-value g.K.PartialEq.eq _ c.move_to_back.new.self o.key _ o.stands.place o.node e.moves
            e.stays.place _ c.value_at_mut.ensures.value;
      },
    )
