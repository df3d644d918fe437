use Rattle.hashlink_set.proofs.Names.{[], subst, sym, AcceptsAll, SetInserts}
use Rattle.std.proofs.lemmas.Result.{on_ok_weaker, IfErr-weaker}
use Rattle.hashlink_model.specs.Many.{StopsAt}
use Rattle.hashlink_set.proofs.Copied.{copied_all, copied_some}
use Rattle.hashlink_set.proofs.set.LinkedHashSet.extend_ref.Goals as goal

pub returns-clause-all : goal.returns-clause-all
returns-clause-all g c =
    let becomes = g.I.IntoIterator.into_iter_gives in
    on_ok_weaker c.extend_from.result (copied_all g.I.IntoIter.Iterator.next_gives becomes c.args.iter
    (λ items. AcceptsAll (SetInserts g.T.PartialEq.eq) c.args.self.now items c.extend_from.new.self)
    c.copied-copies.result c.extend_from.new.iter
    (subst (becomes c.args.iter) (sym c.copied-copies.ensures.source) c.into_iter.ensures.into_iter_gives))
    c.extend_from.ensures.all

pub returns-clause-stopped : goal.returns-clause-stopped
returns-clause-stopped g c =
    let becomes = g.I.IntoIterator.into_iter_gives in
    IfErr-weaker c.extend_from.result _ _
    (λ e. copied_some g.I.IntoIter.Iterator.next_gives becomes c.args.iter
    (λ items. StopsAt (SetInserts g.T.PartialEq.eq) c.args.self.now items c.extend_from.new.self e.taken
    e.pair.0 []) c.copied-copies.result c.extend_from.new.iter
    (subst (becomes c.args.iter) (sym c.copied-copies.ensures.source) c.into_iter.ensures.into_iter_gives))
    c.extend_from.ensures.stopped
