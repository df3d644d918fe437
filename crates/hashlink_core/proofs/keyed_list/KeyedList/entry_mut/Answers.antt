use Rattle.std.proofs.Common.{refl, ◌∙◌}
use Rattle.hashlink_core.proofs.Calls.{held-inside, stored, lent}
use Rattle.hashlink_core.proofs.keyed_list.KeyedList.entry_mut.Goals as goal

pub entry_mut-requires : goal.entry_mut-requires
entry_mut-requires g c = held-inside g.met.K.Eq.laws c.self.view_is c.self.invariant c.args.node c.requires

pub invariant_of-self-lent : goal.invariant_of-self-lent
invariant_of-self-lent g c =
    λ w. (lent g.met.K.Eq.laws c.self.view_is c.self.invariant c.args.node c.requires w).0

pub returns : goal.returns
returns g c = (
  (refl, λ w. (lent g.met.K.Eq.laws c.self.view_is c.self.invariant c.args.node c.requires w).1),
  record {
    lends = tt;
    pair = stored g.met.K.Eq.laws c.self.view_is c.self.invariant c.args.node c.requires
        ∙ c.entry_mut.ensures.pair;
  },
)
