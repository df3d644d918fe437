use Rattle.hashlink_map.proofs.Names.{refl, length, ◌∙◌, entries_of, state_of, lookup-place, lookup-unplaced}
use Rattle.hashlink_map.proofs.AtNode.{moves-and-writes, moved-value, adds-written, added-value}
use Rattle.hashlink_model.proofs.Updates.{updates-put}
use Rattle.hashlink_map.proofs.map.LinkedHashMap.get_or_insert_with.Goals as goal

pub returns-in-Some : goal.returns-in-Some
returns-in-Some g c =
    let eq = g.K.PartialEq.eq in let old = state_of c.args.self.now in
    let new = c.move_to_back.new.self in let k = c.args.key in
    let n = c.in-Some.found.node in
    let found = rw c.self.view_is at c.in-Some.ensures.found in
    let distinct = rw c.self.view_is at c.in-Some.ensures.sound.distinct in
    let e = c.move_to_back.ensures in
    let put = moves-and-writes eq old new k _ found.place n e.moves e.stays.place in
    let value = moved-value eq old new k _ found.place n e.moves e.stays.place _
    c.value_at_mut.ensures.value in (
      (refl, λ w _. put w, tt),
      record {
        lends = tt;
        updates = λ w. updates-put eq g.met.K.Eq.laws old.entries k w (length old.entries) distinct;
        value = rw (lookup-place (eq k) old.entries _ found.place ∙ value) refl;
        handed_back = tt;
        made = tt;
      },
    )

pub make-requires : goal.make-requires
make-requires g c =
    c.requires (lookup-unplaced (g.K.PartialEq.eq c.args.key) (entries_of c.args.self.now)
    (rw c.self.view_is at c.in-None.ensures.found))

pub returns : goal.returns
returns g c =
    let eq = g.K.PartialEq.eq in let laws = g.met.K.Eq.laws in
    let old = state_of c.args.self.now in let k = c.args.key in
    let e = c.in_ok-node-in-None.ensures in let n = c.in_ok-node-in-None.node in
    let new = c.push_back.new.self in
    let distinct = rw c.self.view_is at c.in-None.ensures.sound.distinct in
    let none = lookup-unplaced (eq k) old.entries (rw c.self.view_is at c.in-None.ensures.found) in
    let put = adds-written laws old new k _ n e.inserts e.place in
    let value = added-value laws old new k _ n e.inserts e.place _ c.value_at_mut-in-None.ensures.value in
    rw none (
      (refl, λ w _. put w, tt),
      record {
        lends = tt;
        updates = λ w. updates-put eq laws old.entries k w (length old.entries) distinct;
        value = rw value c.make.ensures;
        handed_back = tt;
        made = tt;
      },
    )
