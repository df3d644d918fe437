use Rattle.hashlink_map.proofs.Names.{refl, arith, length, following_place-guard}
use Rattle.hashlink_map.proofs.MovedLent.{still-there, moved-lent, none-moved}
use Rattle.hashlink_map.proofs.map.LinkedHashMap.to_front.Goals as goal

pub value_mut-requires : goal.value_mut-requires
value_mut-requires g c =
    let m = c.self.inside.list in let e = c.in-Some.ensures in
    let s = c.move_after.ensures in
    let first = following_place-guard (length m.nodes) in
    still-there g.met.K.Eq.laws (g.met.Q.Equivalent.finds_equal c.args.key) m e.distinct
    0 e.found first (omega (arith, first)) s.moved s.sound

pub returns-in-Some : goal.returns-in-Some
returns-in-Some g c =
    let m = c.self.inside.list in let e = c.in-Some.ensures in
    let s = c.move_after.ensures in
    let first = following_place-guard (length m.nodes) in
    let lent = moved-lent g.met.K.Eq.laws (g.met.Q.Equivalent.finds_equal c.args.key) m e.distinct
    0 e.found first (omega (arith, first)) s.moved s.sound
    c.value_mut.ensures.value in
    rw (← c.self.view_is) ((refl, lent.0, refl), lent.1)

pub returns-in-None : goal.returns-in-None
returns-in-None g c =
    let m = c.self.inside.list in let e = c.in-None.ensures in
    let none = none-moved g.met.K.Eq.laws (g.met.Q.Equivalent.finds_equal c.args.key) m e.distinct
    0 e.found in
    rw (← c.self.view_is) ((refl, none.0, refl), none.1)
