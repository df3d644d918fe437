use Rattle.hashlink_core.proofs.Names.{Some, ◌∙◌, sym, ap, ◌≡◌}
use Rattle.hashlink_core.proofs.{Calls.held-inside, Finding.{same-key, same-keyed}}
use Rattle.hashlink_core.proofs.keyed_list.KeyedList.is_at.Goals as goal

pub number-requires : goal.number-requires
number-requires g c =
    held-inside g.met.K.Eq.laws c.self.view_is c.self.invariant c.in-Some.at
    (rw c.in-Some.is at c.requires.place)

pub number-requires-2 : goal.number-requires-2
number-requires-2 g c =
    held-inside g.met.K.Eq.laws c.self.view_is c.self.invariant c.args.node c.requires.node

pub returns-then-number : goal.returns-then-number
returns-then-number g c =
    let laws = g.met.K.Eq.laws in let at = c.in-Some.at in let node = c.args.node in
    let e = c.entry.ensures in let f = c.entry-then-number.ensures in (
      λ t. c.in-Some.is ∙ ap Some (same-keyed laws c.self.invariant at node _ _ e f (sym c.eq.ensures ∙ t)),
      λ is.
          let same : at ≡ node = cc (sym c.in-Some.is ∙ is) in
          c.eq.ensures ∙ same-key laws c.self.invariant at node _ _ e f same,
    )
