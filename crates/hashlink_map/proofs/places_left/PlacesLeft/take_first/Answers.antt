use Rattle.hashlink_map.proofs.Walking.{first-holds, stands-next, takes-first}
use Rattle.hashlink_map.proofs.places_left.PlacesLeft.take_first.Goals as goal

pub after-self-requires : goal.after-self-requires
after-self-requires g c =
    rw c.map.view_is (first-holds c.args.map.now c.args.self.now c.requires.stands c.if-self-eq0.false)

pub returns-clause-stands : goal.returns-clause-stands
returns-clause-stands g c =
    stands-next c.args.map.now c.args.self.now c.requires.stands c.if-self-eq0.false c.after-self.result
    (rw c.map.view_is at c.after-self.ensures)

pub returns-clause-takes : goal.returns-clause-takes
returns-clause-takes g c =
    takes-first c.args.map.now c.args.self.now c.requires.stands c.if-self-eq0.false c.after-self.result
    (rw c.map.view_is at c.after-self.ensures)
