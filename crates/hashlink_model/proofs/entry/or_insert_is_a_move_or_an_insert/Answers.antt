use Rattle.hashlink_model.proofs.{Names.{ap, sym, ◌∙◌, length, option_map_or, put}, ByPlace.moved-there}
use Rattle.hashlink_model.proofs.entry.or_insert_is_a_move_or_an_insert.Goals as goal

pub returns-clause-there : goal.returns-clause-there
returns-clause-there g c eq es k v w l =
    ap (λ o. put eq es k (option_map_or (λ x. x) o v) (length es)) l
    ∙ sym (moved-there eq es k (length es) w l)
