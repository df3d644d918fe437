use Rattle.std.{proofs.Common.map, proofs.lemmas.List.map-append}
use Rattle.hashlink_nodes.proofs.Names.{arith, ◌∷◌, [], ◌++◌, ◌∙◌, sym, ap, is_some, refl, pair_of}
use Rattle.hashlink_nodes.proofs.Chains.{at_back}
use Rattle.hashlink_nodes.proofs.chain.Chain.take_last.Goals as goal

pub prev-self-inside-requires : goal.prev-self-inside-requires
prev-self-inside-requires g c =
    (at_back c.self.invariant c.self.view_is (omega (arith, c.len.ensures)) refl).end.has

pub take-pair-requires : goal.take-pair-requires
take-pair-requires g c =
    ap is_some (at_back c.self.invariant c.self.view_is (omega (arith, c.len.ensures)) refl).end.holds

pub vacate-vacant-requires : goal.vacate-vacant-requires
vacate-vacant-requires g c =
    let end = (at_back c.self.invariant c.self.view_is (omega (arith, c.len.ensures)) refl).end in
    record { has = end.has_yet c.take-pair.ensures.is; bare = end.bare c.take-pair.ensures.is }

pub invariant_of-self : goal.invariant_of-self
invariant_of-self g c =
    let e = at_back c.self.invariant c.self.view_is (omega (arith, c.len.ensures))
    c.prev-self-inside.ensures in
    (e.end.leaves c.take-pair.ensures.is c.vacate-vacant.ensures).whole

pub returns : goal.returns
returns g c =
    let e = at_back c.self.invariant c.self.view_is (omega (arith, c.len.ensures))
    c.prev-self-inside.ensures in
    let l = e.end.leaves c.take-pair.ensures.is c.vacate-vacant.ensures in
    let pair = e.end.pair c.take-pair.ensures.was in
    sym c.self.view_is ∙ ap (map (λ x. pair_of x.1)) e.is
    ∙ map-append (λ x. pair_of x.1) e.rest ((c.self.inside.last, e.entry) ∷ [])
    ∙ (λ i. map (λ x. pair_of x.1) (sym l.is i) ++ pair i ∷ [])
