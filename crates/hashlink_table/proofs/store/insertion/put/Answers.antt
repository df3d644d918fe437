use Rattle.hashlink_table.proofs.Names.{◌≡◌, ◌+◌, ◌-◌, ◌/◌, ◌%◌, ◌<◌, ◌≤◌, length, None, Some, refl, sym, ap}
use Rattle.hashlink_table.proofs.Names.{◌∙◌}
use Rattle.hashlink_table.proofs.Names.{arith, same_Some, count_trailing_zeros, Hashed}
use Rattle.hashlink_table.proofs.Groups.{group_within, grouped_in}
use Rattle.hashlink_table.proofs.{Linking.{none_guest, positive_by_power}, Masks.{first_free, IsFree}}
use Rattle.hashlink_table.proofs.Moving.{arranged-set, nodes-written}
use Rattle.hashlink_table.proofs.store.insertion.put.Given as given
use Rattle.hashlink_table.proofs.store.insertion.put.Goals.{After-free-free}
use Rattle.hashlink_table.proofs.store.insertion.put.Goals as goal

-- what the mask of the group's free slots tells
module _ (g : given.Over) (c : After-free-free g) where
  base : c.base_of-base.result
      ≡ c.args.kept.hash % length c.args.slots.now.cells - c.args.kept.hash % length c.args.slots.now.cells %
      16
  base = c.base_of-base.ensures ∙ ap (λ m. c.args.kept.hash % m - c.args.kept.hash % m % 16) c.len.ensures

  bucket : c.args.kept.hash % length c.args.slots.now.cells < length c.args.slots.now.cells
  bucket = omega (arith, positive_by_power (length c.args.slots.now.cells) c.requires.masked)

  room : c.base_of-base.result + 16 ≤ length c.args.slots.now.cells
  room =
      omega (
        arith,
        base,
        group_within (c.args.kept.hash % length c.args.slots.now.cells) (length c.args.slots.now.cells) bucket
            c.requires.whole,
      )

  found : (c.free-free.result ≡ 0 → ⊥)
      → IsFree c.args.slots.now.cells c.base_of-base.result
      (c.base_of-base.result + count_trailing_zeros 64 c.free-free.result)
  found some =
      let mask = c.free-free.ensures.lanes in
      rw mask (first_free c.args.slots.now.cells c.base_of-base.result room (λ e. some (mask ∙ e)))

pub put-requires : goal.put-requires
put-requires g c =
    let p = (goal.at.put-requires g c).After-free-free in
    omega (arith, (found g p c.if-free-eq0.false).to, room g p)

pub returns-else-free-eq0-clause-arranged : goal.returns-else-free-eq0-clause-arranged
returns-else-free-eq0-clause-arranged g c =
    let p = (goal.at.returns-else-free-eq0-clause-arranged g c).After-free-free in
    let f = found g p c.if-free-eq0.false in
    rw c.put.ensures
    (arranged-set c.requires.arranged _ _ (omega (arith, f.to, room g p)) refl refl
    (none_guest c.args.slots.now.cells _ f.none)
    (λ k is. ap (λ (j : Hashed g.row.N.Denot). j.hash % length c.args.slots.now.cells / 16) (sym (same_Some _
    _ is))
    ∙ grouped_in (c.args.kept.hash % length c.args.slots.now.cells) _ (omega (arith, base g p, f.from))
    (omega (arith, base g p, f.to))))

pub returns-else-free-eq0-clause-nodes : goal.returns-else-free-eq0-clause-nodes
returns-else-free-eq0-clause-nodes g c =
    let p = (goal.at.returns-else-free-eq0-clause-nodes g c).After-free-free in
    let f = found g p c.if-free-eq0.false in
    rw c.put.ensures
    (nodes-written c.args.slots.now.cells _ _ (Some c.args.kept) None (omega (arith, f.to, room g p)) refl
    f.none)
