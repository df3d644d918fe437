use Rattle.hashlink_map.proofs.Names.{InsertsPair, Grows, state_of}
use Rattle.hashlink_map.proofs.Extending.{grows-none, extended, cuts_item}
use Rattle.hashlink_map.proofs.extend.LinkedHashMapExtendTuple2.extend.Goals as goal

pub returns : goal.returns
returns g c =
    let nexts = g.I.IntoIter.Iterator.next_gives in let new = state_of c.extend.new.self in
    extended nexts (λ raw. raw) g.I.IntoIterator.into_iter_gives (InsertsPair g.K.PartialEq.eq) (Grows 1)
    c.args.iter (state_of c.args.self.now) new c.extend.result c.map_err.result c.map_err.ensures.variant
    (λ e. e.taken) (λ e. e.pair) (grows-none new) (cuts_item nexts) (λ a b x y refused. refused.grows)
    c.extend.ensures.all c.extend.ensures.stopped
