use Rattle.std.proofs.Common.{is_some}
use Rattle.hashlink.{proofs.CallerLemmas.written_last-text, specs.Cached.state_of}
use Rattle.hashlink_uses.proofs.Common.{ap, sym}
use Rattle.hashlink_uses.proofs.names.renew.Goals as goal

pub returns-clause-renewed : goal.returns-clause-renewed
returns-clause-renewed g c =
    λ known. written_last-text c.args.name.now (state_of c.args.names.now).map _ c.args.answer
    c.in-Some.ensures.distinct (ap is_some (sym c.in-Some.ensures.value))
    (c.get_mut.follows.holds c.args.answer).1.map
