use Rattle.hashlink_map.proofs.{Names.{refl, still_holds_match}, Written.{is_written, occupied_with-is}}
use Rattle.hashlink_map.proofs.entry.occupied.OccupiedEntry+K+V+S.get_mut.Goals as goal

pub invariant_of-self-lent : goal.invariant_of-self-lent
invariant_of-self-lent g c w = let o = c.args.self.now in
    (still_holds_match w o.map.now.nodes o.node o.stands, tt)

pub returns : goal.returns
returns g c = (
  (refl, λ w. occupied_with-is c.args.self.now w _),
  record { lends = tt; value = c.value_at_mut.ensures.value; written = is_written c.args.self.now },
)
