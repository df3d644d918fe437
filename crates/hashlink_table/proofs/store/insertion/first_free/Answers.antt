use Rattle.hashlink_table.proofs.Names.{◌≡◌, ◌+◌, ◌≤◌, length, inl, inr, sym, ◌∙◌, arith, cases_lt}
use Rattle.hashlink_table.proofs.Names.{IsSome}
use Rattle.hashlink_table.proofs.Names.{count_trailing_zeros, kept_at}
use Rattle.hashlink_table.proofs.{Masks.{all_taken, first_free, IsFree}}
use Rattle.hashlink_table.proofs.store.insertion.first_free.Given as given
use Rattle.hashlink_table.proofs.store.insertion.first_free.Goals.{After-free-free}
use Rattle.hashlink_table.proofs.store.insertion.first_free.Goals as goal

-- what the mask of the group's free slots tells
module _ (g : given.Over) (c : After-free-free g) where
  room : c.loop-base.base + 16 ≤ length c.args.slots.now.cells
  room =
      omega (
        arith,
        c.loop-base.invariant.begins,
        c.requires.begins,
        c.requires.ends,
        c.requires.within,
        c.loop-base-test.true,
      )

  found : (c.free-free.result ≡ 0 → ⊥)
      → IsFree c.args.slots.now.cells c.loop-base.base (c.loop-base.base + count_trailing_zeros 64
      c.free-free.result)
  found some =
      let mask = c.free-free.ensures.lanes in
      rw mask (first_free c.args.slots.now.cells c.loop-base.base room (λ e. some (mask ∙ e)))

pub overflow_add-result : goal.overflow_add-result
overflow_add-result g c =
    let f = found g (goal.at.overflow_add-result g c).After-free-free c.if-free-ne0.true in
    record { fits = omega (arith, f.to, c.free-free.ensures.small) }

pub returns-then-free-ne0-clause-some : goal.returns-then-free-ne0-clause-some
returns-then-free-ne0-clause-some g c =
    let p = (goal.at.returns-then-free-ne0-clause-some g c).After-free-free in
    let f = found g p c.if-free-ne0.true in (omega (arith, f.to, room g p), f.none)

pub loop-base-preserved : goal.loop-base-preserved
loop-base-preserved g c =
    let v = c.loop-base.invariant in
    let p = (goal.at.loop-base-preserved g c).After-free-free in
    let taken = all_taken c.args.slots.now.cells c.loop-base.base (room g p)
    (sym c.free-free.ensures.lanes ∙ c.if-free-ne0.false) in
    record {
      begins = omega (arith, v.begins);
      after = omega (arith, v.after);
      taken = λ at from to. elim (cases_lt at c.loop-base.base)
          as (λ _. IsSome (kept_at c.args.slots.now.cells at))
          [ inl early ↦ v.taken at from early | inr late ↦ taken at late (omega (arith, to)) ];
    }
