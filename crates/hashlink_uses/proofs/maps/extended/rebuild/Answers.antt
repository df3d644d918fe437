use Rattle.hashlink.{specs.MapState.empty_map, proofs.Extends.extended-own, proofs.InTurn.accepts_entries}
use Rattle.hashlink_uses.proofs.Common.{◌∙◌, IfOk-weaker, entries_of, state_of, InsertsPair, extended_by_all}
use Rattle.hashlink_uses.proofs.maps.extended.rebuild.Goals as goal

pub returns : goal.returns
returns g c =
    let eq = g.K.PartialEq.eq in
    let es = entries_of c.args.map in
    IfOk-weaker c.from_iter.result _ _
    (λ m h. accepts_entries eq (empty_map h.0) (state_of m) es
    (extended_by_all (InsertsPair eq) es (empty_map h.0) (state_of m) h.2)
    ∙ extended-own eq g.met.K.Eq.laws es c.len-count.ensures.distinct)
    c.from_iter.ensures.made
