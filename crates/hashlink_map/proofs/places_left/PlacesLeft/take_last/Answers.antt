use Rattle.hashlink_map.proofs.Walking.{last-holds, stands-prev, takes-last}
use Rattle.hashlink_map.proofs.places_left.PlacesLeft.take_last.Goals as goal

pub before-self-requires : goal.before-self-requires
before-self-requires g c =
    rw c.map.view_is (last-holds c.args.map.now c.args.self.now c.requires.stands c.if-self-eq0.false)

pub returns-clause-stands : goal.returns-clause-stands
returns-clause-stands g c =
    stands-prev c.args.map.now c.args.self.now c.requires.stands c.if-self-eq0.false c.before-self.result
    (rw c.map.view_is at c.before-self.ensures)

pub returns-clause-takes : goal.returns-clause-takes
returns-clause-takes g c =
    takes-last c.args.map.now c.args.self.now c.requires.stands c.if-self-eq0.false c.before-self.result
    (rw c.map.view_is at c.before-self.ensures)
