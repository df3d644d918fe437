use Rattle.hashlink_set.proofs.Names.{Grows, SetInserts}
use Rattle.hashlink_map.proofs.Extending.{grows-none, extended, cuts_item}
use Rattle.hashlink_set.proofs.extend.LinkedHashSetExtend.extend.Goals as goal

pub returns : goal.returns
returns g c =
    let nexts = g.I.IntoIter.Iterator.next_gives in
    extended nexts (λ raw. raw) g.I.IntoIterator.into_iter_gives (SetInserts g.T.PartialEq.eq) (Grows 1)
    c.args.iter c.args.self.now c.extend.new.self c.extend.result c.map_err.result c.map_err.ensures.variant
    (λ e. e.taken) (λ e. e.pair.0) (grows-none c.extend.new.self) (cuts_item nexts)
    (λ a b x y refused. refused.grows) c.extend.ensures.all c.extend.ensures.stopped
