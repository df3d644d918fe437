use Rattle.std.specs.Prelude.{◌<◌, IfNone}
use Rattle.hashlink.proofs.Found.{few-before-last}
use Rattle.hashlink_uses.proofs.Common.{◌≡◌, None, sym, subst, rules, length, entries_of}
use Rattle.hashlink_uses.proofs.maps.entries.take_before_last.Goals as goal

pub returns-in_err-map-clause-none : goal.returns-in_err-map-clause-none
returns-in_err-map-clause-none g c =
    let none : c.from_residual.result ≡ None = search rules in
    let count = length (entries_of c.args.map.now) in
    subst (λ r. IfNone r (count < 2)) (sym none) (few-before-last count (search rules))
