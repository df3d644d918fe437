use Rattle.hashlink_curve.proofs.Names.{◌≡◌, ℕ, List, ap, get_or, length, ◌+◌, ◌∙◌, ◌≤◌, ◌<◌, arith, All}
use Rattle.hashlink_curve.proofs.Names.{get_or_default_zero, rows_of}
use Rattle.std.proofs.lemmas.List.Elements.{All-get_or}
use Rattle.hashlink_curve.proofs.Sums.{AreSummed-can_change, AreSummed-changed}
use Rattle.hashlink_curve.proofs.marks.Marks.change_at.Goals as goal

-- the condition on the marks, for the row inside
within : (row seen : List ℕ) (place less more : ℕ) → row ≡ seen → place < length seen
    → less ≤ get_or seen place 0 → (get_or seen place 0 ≤ 1 → get_or seen place 0 + more ≤ less + 1)
    → All (λ marks. marks ≤ 1) row
    → (place < length row) × (less ≤ get_or row place 0) × (get_or row place 0 + more ≤ less + 1)
within row seen place less more is inside enough one all =
    let wide = ap length is in
    let same = ap (λ r. get_or r place 0) is in
    let small = All-get_or (λ marks. marks ≤ 1) row place 0 (omega arith) all in
    let fits = one (omega arith) in
    (omega arith, omega arith, omega arith)

pub change-requires : goal.change-requires
change-requires c =
    let row = c.self.inside.row.items in
    let w = within row c.args.self.now c.args.place c.args.less c.args.more c.self.view_is c.requires.within
    c.requires.enough c.requires.one c.self.invariant.one in
    rw (c.from.ensures, c.from-2.ensures, c.deref_mut.ensures.value)
    (AreSummed-can_change row (rows_of c.self.inside.sums.items) c.self.invariant c.args.place c.args.less
    c.args.more w.0 w.1 (omega arith))

pub invariant_of-self : goal.invariant_of-self
invariant_of-self c =
    let row = c.self.inside.row.items in
    let w = within row c.args.self.now c.args.place c.args.less c.args.more c.self.view_is c.requires.within
    c.requires.enough c.requires.one c.self.invariant.one in
    let read = c.index.ensures ∙ get_or_default_zero row c.args.place c.index.result.now w.0 in
    let same = ap length c.deref_mut.ensures.value in
    AreSummed-changed row c.self.inside.sums.items c.change.new.rows c.args.place c.args.less c.args.more _
    c.self.inside.sums.len c.self.invariant (omega (arith, c.deref_mut.ensures.len)) w.0 w.1 (omega arith)
    (omega arith) (rw (c.from.ensures, c.from-2.ensures, c.deref_mut.ensures.value) at c.change.ensures)
