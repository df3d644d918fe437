use Rattle.std.proofs.{Common.rules, lemmas.List.{map-append}}
use Rattle.hashlink_map.proofs.Taking.{last-taken}
use Rattle.hashlink_set.proofs.Names.{[], ◌∷◌, refl, ap, ◌∙◌, keys_of}
use Rattle.hashlink_set.proofs.drain.DrainDoubleEndedIterator.next_back.Goals as goal

pub returns-clause-steps : goal.returns-clause-steps
returns-clause-steps g c =
    let is = c.in_ok-element.ensures in let t = last-taken is in
    let last : g.row.T.Denot × Unit {0} = (c.in_ok-element.element, tt) in
    record {
      takes = ap keys_of is ∙ map-append (λ e. e.0) c.take_last.new.self (last ∷ []);
      pops = record { answer = t.0; step = rw t.1 (search rules) };
      same_set = refl;
    }
