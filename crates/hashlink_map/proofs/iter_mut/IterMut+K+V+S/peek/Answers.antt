use Rattle.hashlink_map.proofs.{Names.{arith, sym, ◌∙◌, entries_of}, Walking.{first-of_part, first-holds}}
use Rattle.hashlink_map.proofs.iter_mut.IterMut+K+V+S.peek.Goals as goal
use Rattle.hashlink_map.specs.IterMut.{walk_state}

pub pair_at-requires : goal.pair_at-requires
pair_at-requires g c =
    let s = c.args.self.now in first-holds s.map.now s.places s.stands c.if-self-eq0.false

pub returns-clause-pair : goal.returns-clause-pair
returns-clause-pair g c =
    let s = c.args.self.now in let some = c.if-self-eq0.false in
    sym c.pair_at.ensures
    ∙ sym (first-of_part (entries_of s.map.now) (walk_state s).at s.places.left (omega (arith, some)))
