use Rattle.hashlink_curve.proofs.Names.{[], ◌++◌, sym, subst, arith, Marked}
use Rattle.std.proofs.lemmas.{Grind.common_steps, List.append-nil}
use Rattle.hashlink_curve.proofs.marks.Marks.move_mark.Goals as goal

pub returns-clause-moved : goal.returns-clause-moved
returns-clause-moved c xs ys m =
    let less : Marked c.change_at.new.self (xs ++ ys)
    = grind (arith, common_steps, m, c.change_at.ensures.changed) in
    c.mark.ensures.marked (xs ++ ys) [] (subst (Marked _) (sym (append-nil (xs ++ ys))) less)
