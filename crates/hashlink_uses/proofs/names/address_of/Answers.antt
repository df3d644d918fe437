use Rattle.hashlink.{specs.Texts.is_text, proofs.CallerLemmas.lookup-text_kept}
use Rattle.hashlink_uses.proofs.Common.{ap, lookup, ◌∙◌}
use Rattle.hashlink_uses.proofs.names.address_of.Goals as goal

pub returns-then-answer-now-clause-kept : goal.returns-then-answer-now-clause-kept
returns-then-answer-now-clause-kept g c = λ text.
    ap (lookup (is_text text)) c.get.follows.holds-at-none.2
    ∙ lookup-text_kept (is_text c.args.name.now) _ _ c.get.ensures.keeps text

pub returns-clause-kept : goal.returns-clause-kept
returns-clause-kept g c = λ text.
    ap (lookup (is_text text)) c.get.follows.holds-at-none.2
    ∙ lookup-text_kept (is_text c.args.name.now) _ _ c.get.ensures.keeps text
