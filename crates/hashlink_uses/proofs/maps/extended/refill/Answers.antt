use Rattle.std.proofs.Common.{Result, Ok, Err}
use Rattle.hashlink.proofs.InTurn.{drained_takes}
use Rattle.hashlink_uses.proofs.Common.{refl, arith, IsOk, IfErr, IfErr-weaker, entries_of, state_of}
use Rattle.hashlink_uses.proofs.maps.extended.refill.Goals as goal

never_err : {A E : Type 0} (r : Result A E) → IfErr r (λ _. ⊥) → IsOk r
never_err (Ok x) h = refl
never_err (Err e) h = absurd h

pub returns : goal.returns
returns g c =
    let few = c.requires in
    never_err c.append.result
    (IfErr-weaker c.append.result _ _
    (λ e h. drained_takes g.K.PartialEq.eq (state_of c.args.map.now) (state_of c.empty_out.new.map)
    (state_of c.append.new.map) (entries_of c.args.other) e.taken e.pair h.0 c.empty_out.ensures
    (omega arith) h.1)
    c.append.ensures.stopped)
