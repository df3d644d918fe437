use Rattle.hashlink_table.proofs.Names.{◌≡◌, ◌++◌, ◌/◌, List, length, ap, arith, ◌∙◌, replicate, Record}
use Rattle.hashlink_table.proofs.Names.{cleared, empty_record}
use Rattle.hashlink_table.proofs.{Grids.{slots_long, stores-cleared, Stores}}
use Rattle.hashlink_table.proofs.store.slots.Slots.clear.Given as given
use Rattle.hashlink_table.proofs.store.slots.Slots.clear.Goals.{After-add_groups}
use Rattle.hashlink_table.proofs.store.slots.Slots.clear.Goals as goal

-- what is stored afterwards
stored : (g : given.Over) (c : After-add_groups g)
    → Stores c.add_groups.new.groups.items c.self.inside.nodes.items c.self.inside.rests.items
    (cleared c.args.self.now)
stored g c =
    let long = slots_long c.self.invariant c.self.view_is in let n = length c.args.self.now.cells in
    let count : c.len-count.result ≡ n / 16
    = omega (arith, c.len-count.ensures, c.self.inside.groups.ok.0, long.groups) in
    rw (c.add_groups.ensures ∙ ap (λ (bs : List Record). bs ++ replicate c.len-count.result empty_record)
    c.clear.ensures.items ∙ ap (λ k. replicate k empty_record) count)
    (stores-cleared c.self.invariant c.self.view_is)

pub invariant_of-self : goal.invariant_of-self
invariant_of-self g c = (stored g (goal.at.invariant_of-self g c).After-add_groups).0

pub returns : goal.returns
returns g c = (stored g (goal.at.returns g c).After-add_groups).1
