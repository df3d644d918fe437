use Rattle.hashlink_curve.proofs.Names.{◌≡◌, ◌≤◌, ◌+◌, length, ap, arith, sum, drop, CurveState, misses_at}
use Rattle.hashlink_curve.proofs.Histories.{sum-drop-falls}
use Rattle.hashlink_curve.proofs.curve.MissCurve.misses.Goals as goal

pub sum_from-requires : goal.sum_from-requires
sum_from-requires g c =
    let same = ap (λ ns. sum (drop c.args.capacity ns)) c.deref.ensures.value in
    let less : sum (drop c.args.capacity c.self.inside.reuses.items) ≤ sum c.self.inside.reuses.items
    = sum-drop-falls 0 c.args.capacity c.self.inside.reuses.items (omega arith) in
    omega arith

pub overflow_add-result : goal.overflow_add-result
overflow_add-result g c =
    let same = ap (λ ns. sum (drop c.args.capacity ns)) c.deref.ensures.value in
    let less : sum (drop c.args.capacity c.self.inside.reuses.items) ≤ sum c.self.inside.reuses.items
    = sum-drop-falls 0 c.args.capacity c.self.inside.reuses.items (omega arith) in
    omega arith

pub returns-clause-falls : goal.returns-clause-falls
returns-clause-falls g c n l =
    let reuses = c.self.inside.reuses.items in
    let same = ap (λ ns. sum (drop c.args.capacity ns)) c.deref.ensures.value in
    let less = sum-drop-falls n c.args.capacity reuses l in
    let view : length c.self.inside.recency.keys + sum (drop n reuses) ≡ misses_at c.args.self.now n
    = ap (λ (s : CurveState g.row.K.Denot). misses_at s n) c.self.view_is in
    omega arith
