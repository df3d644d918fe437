use Rattle.hashlink_set.proofs.Names.{on_err}
use Rattle.hashlink_set.proofs.set.LinkedHashSet.from_iter.Goals as goal

pub returns-clause-made : goal.returns-clause-made
returns-clause-made g c =
    (c.default.result, c.default.ensures, rw c.with_hasher-set.ensures at c.in_ok-extend.ensures.all)

pub returns-in_err-extend-clause-stopped : goal.returns-in_err-extend-clause-stopped
returns-in_err-extend-clause-stopped g c =
    let read = rw c.with_hasher-set.ensures at c.in_err-extend.ensures.stopped in
    let e = c.in_err-extend.field-0.0 in
    on_err c.from_residual.result _ (
      c.default.result,
      c.default.ensures,
      (read.0, read.1, read.2, read.3, read.4, (c.extend.new.self, (e.taken, e.pair.0, read.5))),
    )
