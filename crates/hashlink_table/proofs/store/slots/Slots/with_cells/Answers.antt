use Rattle.hashlink_table.proofs.Names.{◌≡◌, ◌++◌, ◌/◌, List, length, ap, refl, ◌∙◌, length-replicate}
use Rattle.hashlink_table.proofs.Names.{Record, bare_grid, empty_record, replicate, ℕ, ◌-◌, [], take}
use Rattle.hashlink_table.proofs.Names.{arith, take_all}
use Rattle.hashlink_table.proofs.{Grids.{Stores, stores-bare}}
use Rattle.hashlink_table.proofs.store.slots.Slots.with_cells.Given as given
use Rattle.hashlink_table.proofs.store.slots.Slots.with_cells.Goals.{In_ok-resize-2}
use Rattle.hashlink_table.proofs.store.slots.Slots.with_cells.Goals as goal

-- an empty list that was filled
filled : {X : Type 0} (n len : ℕ) (x : X) (old new : List X) → old ≡ [] → len ≡ 0
    → new ≡ take n old ++ replicate (n - len) x
    → new ≡ replicate n x
filled n len x old new none zero is =
    let all : n - len ≡ n = omega (arith, zero) in
    let cut : take n old ≡ [] = ap (take n) none ∙ take_all n [] (omega arith) in
    is ∙ rw (cut, all) refl

-- what is stored
stored : (g : given.Over) (c : In_ok-resize-2 g)
    → Stores c.add_groups.new.groups.items c.resize.new.self.items c.resize-2.new.self.items
    (bare_grid c.args.count)
stored g c =
    let nodes : c.resize.new.self.items ≡ replicate c.args.count c.args.filler
    = filled _ _ _ _ _ c.new-nodes.ensures.items c.new-nodes.ensures.len c.in_ok-resize.ensures.items in
    let rests
    = filled _ _ _ _ _ c.new-rests.ensures.items c.new-rests.ensures.len c.in_ok-resize-2.ensures.items in
    rw (
      c.add_groups.ensures ∙ ap (λ (bs : List Record). bs ++ replicate (c.args.count / 16) empty_record)
          c.in_ok-groups.ensures.items,
      rests,
    )
    (stores-bare c.resize.new.self.items c.args.count c.args.count
    (ap length nodes ∙ length-replicate c.args.count c.args.filler) refl c.requires)

pub invariant_of-result : goal.invariant_of-result
invariant_of-result g c = (stored g (goal.at.invariant_of-result g c).In_ok-resize-2).0

pub returns : goal.returns
returns g c = (stored g (goal.at.returns g c).In_ok-resize-2).1
