use Rattle.hashlink_map.proofs.Names.{rules, [], deref_pair, AcceptsAll, StopsAt, InsertsPair, state_of}
use Rattle.hashlink_map.proofs.Copying.{mapped_all, mapped_some}
use Rattle.hashlink_map.proofs.map.LinkedHashMap.extend_ref.Goals as goal
use Rattle.std.proofs.lemmas.Result.{on_ok_weaker, IfErr-weaker}

pub returns-clause-all : goal.returns-clause-all
returns-clause-all g c =
    on_ok_weaker c.extend_from.result
    (mapped_all g.I.IntoIter.Iterator.next_gives deref_pair g.I.IntoIterator.into_iter_gives c.args.iter
    (λ items. AcceptsAll (InsertsPair g.K.PartialEq.eq) (state_of c.args.self.now) items
    (state_of c.extend_from.new.self))
    _ (λ p q x y called. search rules) c.into_iter.result c.map-copies.result c.extend_from.new.iter
    c.map-copies.ensures.source c.into_iter.ensures.into_iter_gives) c.extend_from.ensures.all

pub returns-clause-stopped : goal.returns-clause-stopped
returns-clause-stopped g c =
    IfErr-weaker c.extend_from.result _ _
    (λ e. mapped_some g.I.IntoIter.Iterator.next_gives deref_pair g.I.IntoIterator.into_iter_gives c.args.iter
    (λ items. StopsAt (InsertsPair g.K.PartialEq.eq) (state_of c.args.self.now) items
    (state_of c.extend_from.new.self) e.taken e.pair [])
    _ (λ p q x y called. search rules) c.into_iter.result c.map-copies.result c.extend_from.new.iter
    c.map-copies.ensures.source c.into_iter.ensures.into_iter_gives) c.extend_from.ensures.stopped
