use Rattle.hashlink_map.proofs.Names.{map, deref_pair, InsertsPair, Grows, state_of}
use Rattle.hashlink_map.proofs.Extending.{grows-none, extended, cuts_copy}
use Rattle.hashlink_map.proofs.extend.LinkedHashMapExtendTuple2RefRef.extend.Goals as goal

pub returns : goal.returns
returns g c =
    let nexts = g.I.IntoIter.Iterator.next_gives in let new = state_of c.extend_ref.new.self in
    extended nexts (map deref_pair) g.I.IntoIterator.into_iter_gives (InsertsPair g.K.PartialEq.eq) (Grows 1)
    c.args.iter (state_of c.args.self.now) new c.extend_ref.result c.map_err.result c.map_err.ensures.variant
    (λ e. e.taken) (λ e. e.pair) (grows-none new) (cuts_copy nexts deref_pair)
    (λ a b x y refused. refused.grows) c.extend_ref.ensures.all c.extend_ref.ensures.stopped
