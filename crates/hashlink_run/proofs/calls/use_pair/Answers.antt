use Rattle.std.proofs.Common.{rules, Some, Ok}
use Rattle.hashlink_lru.specs.Cached.{state_of}
use Rattle.hashlink_run.proofs.CallLaws.{use-recent}
use Rattle.hashlink_run.proofs.calls.use_pair.Goals as goal

pub returns-in-Some-clause-uses : goal.returns-in-Some-clause-uses
returns-in-Some-clause-uses g c = search rules

pub returns-in-Some-clause-recent : goal.returns-in-Some-clause-recent
returns-in-Some-clause-recent g c =
    use-recent g.K.PartialEq.eq g.met.K.Eq.laws (state_of c.args.cache.now)
    (state_of c.get.follows.lender-at-none)
    c.args.key c.args.value (Ok (Some c.in-Some.found)) (returns-in-Some-clause-uses g c)

pub returns-in-None-clause-uses : goal.returns-in-None-clause-uses
returns-in-None-clause-uses g c = search rules

pub returns-in-None-clause-recent : goal.returns-in-None-clause-recent
returns-in-None-clause-recent g c =
    use-recent g.K.PartialEq.eq g.met.K.Eq.laws (state_of c.args.cache.now)
    (state_of c.insert.new.self) c.args.key c.args.value c.insert.result (returns-in-None-clause-uses g c)
