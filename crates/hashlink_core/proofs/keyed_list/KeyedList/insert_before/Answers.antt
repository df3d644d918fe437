use Rattle.hashlink_core.proofs.Names.{◌≡◌, ℕ, ◌+◌, ◌≤◌, length, true≢false, refl, ap, sym, ◌∙◌, arith}
use Rattle.hashlink_core.proofs.Names.{length-values_of, Keyed, short}
use Rattle.hashlink_core.proofs.Calls.{on_err, sound, place-inside, added-step, added-node}
use Rattle.hashlink_core.proofs.keyed_list.KeyedList.insert_before.Goals as goal

-- if there is no room for one more node, none is free
full : (n spare room : ℕ) → n + spare ≤ room → (n + 1 ≤ room → ⊥) → spare ≡ 0
full n spare room fits more = omega arith

pub push_before-requires-clause-place : goal.push_before-requires-clause-place
push_before-requires-clause-place g c =
    place-inside g.met.K.Eq.laws c.self.view_is c.self.invariant c.args.place
    (rw c.reserve.ensures.grown.rest c.requires.place)

pub invariant_of-self-2 : goal.invariant_of-self-2
invariant_of-self-2 g c =
    let grown = c.reserve.ensures.grown in
    let p = c.in_ok-node.ensures in
    let i = c.insert_reserved in
    let hasher : c.args.self.now.hasher ≡ c.self.inside.hash_builder
    = sym (ap (λ (m : Keyed _ _ _). m.hasher) (c.self.view_is ∙ grown.rest)) in
    added-step g.met.K.Eq.laws c.self.view_is c.self.invariant c.args.self.now grown c.args.key c.args.value
    c.requires.absent c.in-Ok.ensures.ok c.args.place c.in_ok-node.node c.short_hash-short.result
    c.push_before.new.self i.new.self p.entries p.apart p.free i.ensures.inserted i.ensures.room
    (c.short_hash-short.ensures ∙ ap short (rw hasher at c.requires.hash))

pub returns-clause-added : goal.returns-clause-added
returns-clause-added g c =
    let p = c.in_ok-node.ensures in
    let i = c.insert_reserved in
    added-node g.met.K.Eq.laws c.self.view_is c.self.invariant c.args.self.now
    c.reserve.ensures.grown c.args.key
    c.args.value c.requires.absent c.in-Ok.ensures.ok c.args.place c.in_ok-node.node c.short_hash-short.result
    c.push_before.new.self i.new.self p.entries p.apart p.free i.ensures.inserted i.ensures.room
    (invariant_of-self-2 g c) p.link_writes

pub returns-clause-sound : goal.returns-clause-sound
returns-clause-sound g c = sound refl (invariant_of-self-2 g c)

pub returns-in_default-clause-no_spare : goal.returns-in_default-clause-no_spare
returns-in_default-clause-no_spare g c =
    let old = c.args.self.now in
    full (length old.nodes) old.spare old.room
    (omega (arith, c.reserve.ensures.sound.fits, length-values_of old.nodes))
    (λ more. true≢false (sym (c.in_default.ensures.enough more).0))

pub returns-in_err-node-clause-refused : goal.returns-in_err-node-clause-refused
returns-in_err-node-clause-refused g c =
    let grown = rw (sym c.self.view_is) at c.reserve.ensures.grown in
    on_err _ _ (rw (sym c.in_err-node.ensures.unchanged) at grown)
