use Rattle.std.proofs.lemmas.Option.{IfSome_then}
use Rattle.hashlink_table.proofs.{Nodes.contains-at, Views.{can_ask, no_cost, search_cost}}
use Rattle.hashlink_table.proofs.table.Table.find.Goals as goal

pub seek-requires-clause-arranged : goal.seek-requires-clause-arranged
seek-requires-clause-arranged g c = c.self.invariant.arranged

pub seek-requires-clause-callable : goal.seek-requires-clause-callable
seek-requires-clause-callable g c =
    can_ask c.self.invariant c.self.view_is c.args.hash _ c.requires.callable c.if-self-eq0.false

pub seek-requires-clause-telling : goal.seek-requires-clause-telling
seek-requires-clause-telling g c =
    λ h node there. c.requires.telling h node (rw (← c.self.view_is) there)

pub returns-clause-none : goal.returns-clause-none
returns-clause-none g c = rw (← c.self.view_is) c.seek.ensures.none

pub returns-clause-found : goal.returns-clause-found
returns-clause-found g c =
    rw (← c.self.view_is) (IfSome_then c.seek.result c.seek.ensures.found (λ f found.
    (contains-at c.self.inside.slots.cells f.slot _ found.0, found.1)))

pub returns-clause-cost : goal.returns-clause-cost
returns-clause-cost g c =
    search_cost c.self.invariant c.self.view_is c.args.hash _ _ c.if-self-eq0.false c.seek.ensures.cost

pub returns-then-self-eq0-clause-cost : goal.returns-then-self-eq0-clause-cost
returns-then-self-eq0-clause-cost g c = no_cost c.self.invariant c.self.view_is c.args.hash _
