use Rattle.hashlink_core.proofs.Names.{◌≡◌, ◌-◌, length, ap, ◌∙◌, length-map, pair_of, state_of, arith}
use Rattle.hashlink_core.proofs.{Calls.sound, Stepping.{pairs-mapped, step-none}}
use Rattle.hashlink_core.specs.Drained.{links_ahead}
use Rattle.hashlink_core.proofs.keyed_list.KeyedList.take_entries.Goals as goal

pub invariant_of-self : goal.invariant_of-self
invariant_of-self g c =
    let taken = c.take_entries.ensures in
    step-none g.met.K.Eq.laws c.take_entries.new.self c.clear.new.self taken.entries
    (ap (λ t. t.nodes) c.clear.ensures)
    (omega (arith, c.self.invariant.fits, ap length taken.free, ap (λ t. t.room) c.clear.ensures))

pub returns-clause-taken : goal.returns-clause-taken
returns-clause-taken g c =
    let taken = c.take_entries.ensures in let r = c.self.inside.nodes in
    let long = ap length taken.pairs ∙ length-map r.entries (λ e. pair_of e.1) in
    let stored : c.take_entries.new.self.link_writes - links_ahead (length c.take_entries.result)
    ≡ r.link_writes = omega (arith, taken.link_writes, long) in
    (λ i. record {
      entries = (taken.pairs ∙ pairs-mapped r.entries) i;
      spare = length (taken.free i);
      room = (c.clear.ensures i).room;
      link_writes = stored i;
      hasher = c.self.inside.hash_builder;
    }) ∙ ap state_of c.self.view_is

pub returns-clause-sound : goal.returns-clause-sound
returns-clause-sound g c = sound c.self.view_is c.self.invariant
