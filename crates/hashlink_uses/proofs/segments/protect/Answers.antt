use Rattle.hashlink.{specs.Cached.state_of, proofs.Joined.pushed-parts}
use Rattle.hashlink_uses.proofs.segments.protect.Goals as goal

pub returns-in-Ok-clause-parts : goal.returns-in-Ok-clause-parts
returns-in-Ok-clause-parts g c =
    rw (c.in-Ok.ensures.left, c.in-Ok.ensures.entries)
    (pushed-parts g.met.K.Eq.laws (state_of c.args.protected.now) c.args.key c.args.value c.requires.absent
    c.requires.within c.requires.distinct)
