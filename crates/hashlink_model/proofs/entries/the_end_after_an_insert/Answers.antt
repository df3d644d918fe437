use Rattle.hashlink_model.{specs.Entries.without, proofs.Finds.stored_key-equal}
use Rattle.hashlink_model.proofs.Puts.{put_back, put_front}
use Rattle.hashlink_model.proofs.entries.the_end_after_an_insert.Goals as goal

pub returns : goal.returns
returns g c = record {
  back = λ eq laws es k v. (without eq es k, _, put_back eq es k v, stored_key-equal eq laws k es);
  front = λ eq laws es k v. (without eq es k, _, put_front eq es k v, stored_key-equal eq laws k es);
}
