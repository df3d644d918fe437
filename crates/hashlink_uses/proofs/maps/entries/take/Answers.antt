use Rattle.hashlink.{specs.Steps.RemovesKey, proofs.AtKey.{taken-key, absent-taken}}
use Rattle.hashlink_uses.proofs.Common.{◌≡◌, None, sym, subst, rules, state_of, occupied_place}
use Rattle.hashlink_uses.proofs.maps.entries.take.Goals as goal

pub returns-in-Occupied : goal.returns-in-Occupied
returns-in-Occupied g c =
    taken-key g.K.PartialEq.eq (state_of c.args.map.now) _ c.args.key (occupied_place c.in-Occupied.entry)
    (search rules) c.remove_entry.result (search rules)

pub returns : goal.returns
returns g c =
    let same : c.match-this.map ≡ c.args.map.now = search rules in
    subst (λ m. RemovesKey g.K.PartialEq.eq (state_of c.args.map.now) (state_of m) c.args.key None) (sym same)
    (absent-taken g.K.PartialEq.eq (state_of c.args.map.now) c.args.key (search rules))
