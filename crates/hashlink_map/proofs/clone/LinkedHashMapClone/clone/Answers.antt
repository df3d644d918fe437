use Rattle.hashlink_core.specs.Keyed.{state_of, entries_of}
use Rattle.hashlink_map.proofs.Clones.{clone_by_answer}
use Rattle.hashlink_map.proofs.clone.LinkedHashMapClone.clone.Goals as goal

pub returns : goal.returns
returns g c = record {
  cases = clone_by_answer g.K.Clone.is_clone g.V.Clone.is_clone g.K.PartialEq.eq
      (g.S.Clone.is_clone c.args.self.now.hasher) (g.S.Clone.is_infallible c.args.self.now.hasher)
      (entries_of c.args.self.now) state_of c.clone.result c.clone.ensures.made c.clone.ensures.refused
      c.clone.ensures.equal c.clone.ensures.same;
}
