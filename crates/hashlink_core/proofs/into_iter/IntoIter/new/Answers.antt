use Rattle.hashlink_core.proofs.{Names.◌∙◌, Stepping.pairs-mapped}
use Rattle.hashlink_core.proofs.into_iter.IntoIter.new.Goals as goal

pub returns : goal.returns
returns g c = c.into_chain.ensures ∙ pairs-mapped _
