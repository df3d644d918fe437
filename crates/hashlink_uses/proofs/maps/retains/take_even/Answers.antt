use Rattle.std.proofs.lemmas.List.{length-map}
use Rattle.hashlink.proofs.Counting.{removes_first, without_first-keys}
use Rattle.hashlink_uses.proofs.Common.{◌%◌, ◌∙◌, ap, arith, nat_eq, rules, keys_of}
use Rattle.hashlink_uses.proofs.maps.retains.take_even.Goals as goal

pub overflow_sub-result : goal.overflow_sub-result
overflow_sub-result g c =
    let all = removes_first _ (λ e. nat_eq (e.0 % 2) 0) (λ f. f.0.now) (λ f. f.0.ghost_name)
    (λ f k v b w g call. search rules) _ _ _ _ c.retain_from.ensures.retained in
    let fewer = all.fewer in
    let same = all.same in
    grind (arith, fewer, same)

pub returns : goal.returns
returns g c =
    let all = removes_first _ (λ e. nat_eq (e.0 % 2) 0) (λ f. f.0.now) (λ f. f.0.ghost_name)
    (λ f k v b w g call. search rules) _ _ _ _ c.retain_from.ensures.retained in
    let count = all.count in
    let fewer = all.fewer in
    let same = all.same in
    let before = length-map c.args.set.now.entries (λ e. e.0) in
    let after = length-map c.retain_from.new.self.entries (λ e. e.0) in
    record {
      left = ap keys_of all.left_are.entries
          ∙ without_first-keys (λ t. nat_eq (t % 2) 0) c.args.most c.args.set.now.entries;
      taken = grind (arith, count, fewer, same, before, after);
      most = omega arith;
    }
