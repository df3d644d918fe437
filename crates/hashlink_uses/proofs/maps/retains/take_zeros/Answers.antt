use Rattle.std.proofs.Common.{arith, nat_eq, rules}
use Rattle.hashlink.proofs.Counting.{removes_first}
use Rattle.hashlink_uses.proofs.maps.retains.take_zeros.Goals as goal

pub overflow_sub-result : goal.overflow_sub-result
overflow_sub-result g c =
    let all = removes_first _ (λ e. nat_eq e.1 0) (λ f. f.0.now) (λ f. f.0.ghost_name)
    (λ f k v b w g call. search rules) _ _ _ _ c.retain_from.ensures.retained in
    let fewer = all.fewer in
    let same = all.same in
    grind (arith, fewer, same)

pub returns : goal.returns
returns g c =
    let all = removes_first _ (λ e. nat_eq e.1 0) (λ f. f.0.now) (λ f. f.0.ghost_name)
    (λ f k v b w g call. search rules) _ _ _ _ c.retain_from.ensures.retained in
    let count = all.count in
    let fewer = all.fewer in
    let same = all.same in
    record { left = all.left_are; taken = grind (arith, count, fewer, same); most = omega arith }
