use Rattle.hashlink.proofs.CallerLemmas.{updates-got}
use Rattle.hashlink_uses.proofs.Common.{ap, is_ok, state_of}
use Rattle.hashlink_uses.proofs.maps.lent_values.write_or_make.Goals as goal

pub returns : goal.returns
returns g c =
    let f = c.get_or_insert_with.follows in
    updates-got g.K.PartialEq.eq (state_of c.args.map.now) (state_of (f.lender c.args.value)) c.args.key
    c.args.value c.in_ok-get_or_insert_with.ensures.updates
    (f.holds c.args.value (ap is_ok c.in_ok-get_or_insert_with.was))
