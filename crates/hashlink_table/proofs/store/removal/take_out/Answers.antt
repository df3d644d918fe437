use Rattle.hashlink_table.proofs.Names.{◌≡◌, ◌<◌, None, Some, length, refl, sym, ◌∙◌}
use Rattle.hashlink_table.proofs.Names.{arith, Hashed}
use Rattle.hashlink_table.proofs.Names.{kept_at, guest_at, stored_in, ◌%◌, ◌/◌}
use Rattle.hashlink_table.proofs.Linking.{at-set_other, guest_kept, kept-same, on_chain, same_length}
use Rattle.hashlink_table.proofs.Linking.{stored-same}
use Rattle.hashlink_table.proofs.Linking.{within_kept}
use Rattle.hashlink_table.proofs.Moving.{arranged-freed, nodes-written}
use Rattle.hashlink_table.proofs.Nodes.{nodes_in-same}
use Rattle.hashlink_table.proofs.store.removal.take_out.Given as given
use Rattle.hashlink_table.proofs.store.removal.take_out.Goals.{Start}
use Rattle.hashlink_table.proofs.store.removal.take_out.Goals as goal

-- the guest
module _ (g : given.Over) (c : Start g) where
  there : (k : Hashed g.row.N.Denot) × (guest_at c.args.slots.now.cells c.args.guest ≡ Some k)
      × (k.hash % length c.args.slots.now.cells / 16 ≡ c.args.group)
  there =
      on_chain (length c.args.slots.now.cells) c.args.slots.now.cells c.args.guest c.args.group
      c.requires.on_chain
      (omega (arith, c.requires.within, c.requires.arranged.paired))

  kept : kept_at c.args.slots.now.cells c.args.guest ≡ Some there.0
  kept = guest_kept c.args.slots.now.cells c.args.guest there.0 there.1

  within : c.args.guest < length c.args.slots.now.cells
  within = within_kept c.args.slots.now.cells c.args.guest there.0 kept

pub known-kept-requires : goal.known-kept-requires
known-kept-requires g c =
    let s = (goal.at.known-kept-requires g c).Start in
    rw (kept-same c.args.slots.now.cells c.unlink.new.slots.cells c.unlink.ensures.nodes c.args.guest ∙ kept g
    s) refl

pub set_free-requires : goal.set_free-requires
set_free-requires g c =
    omega (
      arith,
      within g (goal.at.set_free-requires g c).Start,
      same_length c.args.slots.now.cells c.unlink.new.slots.cells c.unlink.ensures.nodes,
    )

pub returns-clause-arranged : goal.returns-clause-arranged
returns-clause-arranged g c =
    rw c.set_free.ensures
    (arranged-freed c.requires.arranged c.unlink.new.slots.cells c.unlink.new.slots.heads c.args.guest _
    c.requires.whole
    (within g (goal.at.returns-clause-arranged g c).Start) c.unlink.ensures.nodes c.unlink.ensures.masks
    c.unlink.ensures.unlinked refl refl refl)

pub returns-clause-kept : goal.returns-clause-kept
returns-clause-kept g c =
    sym (kept-same c.args.slots.now.cells c.unlink.new.slots.cells c.unlink.ensures.nodes c.args.guest)
    ∙ c.known-kept.ensures

pub returns-clause-others : goal.returns-clause-others
returns-clause-others g c = λ at ne.
    rw c.set_free.ensures
    (at-set_other c.unlink.new.slots.cells c.args.guest _ stored_in at ne
    ∙ stored-same c.args.slots.now.cells c.unlink.new.slots.cells c.unlink.ensures.nodes at)

pub returns-clause-nodes : goal.returns-clause-nodes
returns-clause-nodes g c =
    let low = within g (goal.at.returns-clause-nodes g c).Start in
    let long = same_length c.args.slots.now.cells c.unlink.new.slots.cells c.unlink.ensures.nodes in
    rw (
      c.set_free.ensures,
      ← nodes_in-same c.args.slots.now.cells c.unlink.new.slots.cells
          c.unlink.ensures.nodes,
    )
    (nodes-written c.unlink.new.slots.cells c.args.guest _ None (Some c.known-kept.result) (omega (
      arith,
      low,
      long,
    ))
    refl c.known-kept.ensures)
