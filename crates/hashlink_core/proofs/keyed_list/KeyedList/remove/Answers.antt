use Rattle.std.proofs.Common.{refl, ◌∙◌, rules}
use Rattle.hashlink_core.proofs.Calls.{sound, held-inside, stored, removed-step, removed-node}
use Rattle.hashlink_core.proofs.Finding.{Detached, asked-short, left-known, left-told, taken-out}
use Rattle.hashlink_core.proofs.keyed_list.KeyedList.remove.Given as given
use Rattle.hashlink_core.proofs.keyed_list.KeyedList.remove.Goals.{After-detach_into_free-pair}
use Rattle.hashlink_core.proofs.keyed_list.KeyedList.remove.Goals as goal

-- the node is detached
abbrev detached : (g : given.Over) (c : After-detach_into_free-pair g)
    → Detached c.self.inside.nodes c.args.node c.number-number.result c.detach_into_free-pair.new.self
detached g c = record {
  held = held-inside g.met.K.Eq.laws c.self.view_is c.self.invariant c.args.node c.requires;
  is = c.number-number.ensures;
  entries = c.detach_into_free-pair.ensures.entries;
  free = c.detach_into_free-pair.ensures.free;
}

pub number-number-requires : goal.number-number-requires
number-number-requires g c =
    held-inside g.met.K.Eq.laws c.self.view_is c.self.invariant c.args.node c.requires

pub detach_into_free-pair-requires : goal.detach_into_free-pair-requires
detach_into_free-pair-requires g c =
    held-inside g.met.K.Eq.laws c.self.view_is c.self.invariant c.args.node c.requires

pub overflow_cast-number : goal.overflow_cast-number
overflow_cast-number g c =
    let d = detached g (goal.at.overflow_cast-number g c).After-detach_into_free-pair in
    let small = asked-short c.self.invariant c.args.node _ d.held d.is in
    search rules

pub remove_at-requires-clause-callable : goal.remove_at-requires-clause-callable
remove_at-requires-clause-callable g c number node there =
    left-known c.self.invariant
    (detached g (goal.at.remove_at-requires-clause-callable g c).After-detach_into_free-pair)
    number node there

pub remove_at-requires-clause-telling : goal.remove_at-requires-clause-telling
remove_at-requires-clause-telling g c =
    left-told c.self.invariant
    (detached g (goal.at.remove_at-requires-clause-telling g c).After-detach_into_free-pair)

pub returns-clause-pair : goal.returns-clause-pair
returns-clause-pair g c =
    stored g.met.K.Eq.laws c.self.view_is c.self.invariant c.args.node c.requires
    ∙ c.detach_into_free-pair.ensures.pair

pub invariant_of-self : goal.invariant_of-self
invariant_of-self g c =
    let t = c.remove_at in
    let d = c.detach_into_free-pair.ensures in
    removed-step g.met.K.Eq.laws c.self.view_is c.self.invariant c.args.node c.requires
    c.detach_into_free-pair.new.self t.new.self c.number-number.result c.number-number.ensures
    (taken-out c.self.invariant (detached g (goal.at.invariant_of-self g c).After-detach_into_free-pair)
    t.new.self t.result t.ensures.removed t.ensures.none) t.ensures.room d.entries d.free

pub returns-clause-removed : goal.returns-clause-removed
returns-clause-removed g c =
    let t = c.remove_at in
    let d = c.detach_into_free-pair.ensures in
    removed-node g.met.K.Eq.laws c.self.view_is c.self.invariant c.args.node c.requires
    c.detach_into_free-pair.new.self t.new.self c.number-number.result c.number-number.ensures
    (taken-out c.self.invariant (detached g (goal.at.returns-clause-removed g c).After-detach_into_free-pair)
    t.new.self t.result t.ensures.removed t.ensures.none) t.ensures.room d.entries d.free d.link_writes

pub returns-clause-sound : goal.returns-clause-sound
returns-clause-sound g c = sound refl (invariant_of-self g c)

pub returns-clause-was_sound : goal.returns-clause-was_sound
returns-clause-was_sound g c = sound c.self.view_is c.self.invariant
