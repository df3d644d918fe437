use Rattle.hashlink_set.proofs.Names.{map, deref, Grows, SetInserts}
use Rattle.hashlink_map.proofs.Extending.{grows-none, extended, cuts_copy}
use Rattle.hashlink_set.proofs.extend.LinkedHashSetExtendRef.extend.Goals as goal

pub returns : goal.returns
returns g c =
    let nexts = g.I.IntoIter.Iterator.next_gives in let new = c.extend_ref.new.self in
    extended nexts (map deref) g.I.IntoIterator.into_iter_gives (SetInserts g.T.PartialEq.eq) (Grows 1)
    c.args.iter c.args.self.now new c.extend_ref.result c.map_err.result c.map_err.ensures.variant
    (λ e. e.taken) (λ e. e.pair.0) (grows-none new) (cuts_copy nexts deref)
    (λ a b x y refused. refused.grows) c.extend_ref.ensures.all c.extend_ref.ensures.stopped
