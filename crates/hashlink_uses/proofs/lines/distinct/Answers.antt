use Rattle.std.proofs.Common.{◌∷◌, ◌++◌, ◌+◌, add-one, ap, ap₂, drop, drop-cons, sym, ◌∙◌}
use Rattle.std.proofs.lemmas.List.{append-nil, drop_all}
use Rattle.hashlink.specs.Sets.{elements_of}
use Rattle.hashlink_uses.{specs.Appearances.first_appearances, proofs.Appearing.appears}
use Rattle.hashlink_uses.proofs.lines.distinct.Goals as goal

pub loop-item-init : goal.loop-item-init
loop-item-init g c =
    let eq = g.T.PartialEq.eq in
    ap (λ s. elements_of s ++ first_appearances eq (elements_of s) c.args.items.now) c.new-seen.ensures

pub loop-item-preserved : goal.loop-item-preserved
loop-item-preserved g c =
    let eq = g.T.PartialEq.eq in
    let seen = elements_of c.loop-item.seen in
    let x = c.item-item.result in
    let left = drop (c.loop-item.item-index + 1) c.args.items.now in
    let next = drop-cons c.args.items.now c.loop-item.item-index x c.loop-item-test.true
    ∙ ap₂ (λ y n. y ∷ drop n c.args.items.now) (sym c.item-item.is) (sym (add-one c.loop-item.item-index)) in
    ap (λ now. now ++ first_appearances eq now left) c.in_ok-add_new.ensures ∙ appears eq seen x left
    ∙ ap (λ xs. seen ++ first_appearances eq seen xs) (sym next) ∙ c.loop-item.invariant

pub returns : goal.returns
returns g c =
    let eq = g.T.PartialEq.eq in
    let seen = elements_of c.loop-item.seen in
    let none = drop_all _ c.args.items.now c.loop-item-test.false in
    sym (append-nil seen) ∙ ap (λ xs. seen ++ first_appearances eq seen xs) (sym none) ∙ c.loop-item.invariant
