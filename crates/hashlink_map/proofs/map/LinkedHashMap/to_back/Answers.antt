use Rattle.hashlink_map.proofs.Names.{refl, le_refl, length, guard-number, entries_of}
use Rattle.hashlink_map.proofs.MovedLent.{still-there, moved-lent, none-moved}
use Rattle.hashlink_map.proofs.map.LinkedHashMap.to_back.Goals as goal

pub value_mut-requires : goal.value_mut-requires
value_mut-requires g c =
    let m = c.self.inside.list in let e = c.in-Some.ensures in
    let s = c.move_before.ensures in
    still-there g.met.K.Eq.laws (g.met.Q.Equivalent.finds_equal c.args.key) m e.distinct
    (length (entries_of m)) e.found (guard-number m) (le_refl (length m.nodes)) s.moved s.sound

pub returns-in-Some : goal.returns-in-Some
returns-in-Some g c =
    let m = c.self.inside.list in let e = c.in-Some.ensures in
    let s = c.move_before.ensures in
    let lent = moved-lent g.met.K.Eq.laws (g.met.Q.Equivalent.finds_equal c.args.key) m e.distinct
    (length (entries_of m)) e.found (guard-number m) (le_refl (length m.nodes)) s.moved s.sound
    c.value_mut.ensures.value in
    rw (← c.self.view_is) ((refl, lent.0, refl), lent.1)

pub returns-in-None : goal.returns-in-None
returns-in-None g c =
    let m = c.self.inside.list in let e = c.in-None.ensures in
    let none = none-moved g.met.K.Eq.laws (g.met.Q.Equivalent.finds_equal c.args.key) m e.distinct
    (length (entries_of m)) e.found in
    rw (← c.self.view_is) ((refl, none.0, refl), none.1)
