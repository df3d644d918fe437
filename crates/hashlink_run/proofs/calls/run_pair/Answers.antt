use Rattle.hashlink_run.proofs.CallLaws.{ran-includes, ran-follows, ran-distinct}
use Rattle.hashlink_run.proofs.calls.run_pair.Goals as goal

pub returns-clause-small : goal.returns-clause-small
returns-clause-small g c = c.in_ok-small.ensures.ran

pub returns-clause-large : goal.returns-clause-large
returns-clause-large g c = c.in_ok-large.ensures.ran

pub returns-clause-inclusion : goal.returns-clause-inclusion
returns-clause-inclusion g c =
    ran-includes g.K.PartialEq.eq g.met.K.Eq.laws _ _ _ _ c.requires _ _ _ _ c.in_ok-small.ensures.ran
    c.in_ok-large.ensures.ran

pub returns-clause-small_history : goal.returns-clause-small_history
returns-clause-small_history g c =
    ran-follows g.K.PartialEq.eq g.met.K.Eq.laws _ _ _ _ _ c.in_ok-small.ensures.ran

pub returns-clause-large_history : goal.returns-clause-large_history
returns-clause-large_history g c =
    ran-follows g.K.PartialEq.eq g.met.K.Eq.laws _ _ _ _ _ c.in_ok-large.ensures.ran

pub returns-clause-small_distinct : goal.returns-clause-small_distinct
returns-clause-small_distinct g c =
    ran-distinct g.K.PartialEq.eq g.met.K.Eq.laws _ _ _ _ _ c.in_ok-small.ensures.ran

pub returns-clause-large_distinct : goal.returns-clause-large_distinct
returns-clause-large_distinct g c =
    ran-distinct g.K.PartialEq.eq g.met.K.Eq.laws _ _ _ _ _ c.in_ok-large.ensures.ran
