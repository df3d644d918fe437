use Rattle.hashlink_model.proofs.Names.{ap, sym, ◌∙◌, length, put}
use Rattle.hashlink_model.proofs.Afterwards.{length-put_there, moved_twice, put_back_twice}
use Rattle.hashlink_model.proofs.entries.move_twice_is_once.Goals as goal

pub returns-clause-back : goal.returns-clause-back
returns-clause-back g c eq laws es k d =
    moved_twice eq laws es k (length es) d (λ w l.
    ap (put eq (put eq es k w (length es)) k w) (sym (length-put_there eq es k w (length es) w l))
    ∙ put_back_twice eq laws es k w w d)
