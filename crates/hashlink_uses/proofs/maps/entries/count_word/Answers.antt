use Rattle.std.specs.Prelude.{unwrap_or}
use Rattle.hashlink.specs.MapEntryLends.{PutsLast}
use Rattle.hashlink_uses.proofs.Common.{◌≡◌, ◌+◌, ap, subst, ◌∙◌, is_ok, rules, IsOk, state_of, entries_of}
use Rattle.hashlink_uses.proofs.Common.{lookup}
use Rattle.hashlink_uses.proofs.maps.entries.count_word.Goals as goal

pub returns-clause-counts : goal.returns-clause-counts
returns-clause-counts g c =
    let w = c.in_ok-count.count.now + 1 in
    let f = c.or_insert.follows in
    let ok : IsOk c.or_insert.result = ap is_ok c.in_ok-count.was in
    let put : PutsLast g.K.PartialEq.eq (state_of c.args.map.now) (state_of (f.lender w)) c.args.word w =
    subst (λ e. PutsLast g.K.PartialEq.eq e.map (state_of (f.lender w)) e.key w) c.entry.ensures.entry
    (f.holds w ok)
    in
    let written : w ≡ unwrap_or (lookup (g.K.PartialEq.eq c.args.word) (entries_of c.args.map.now)) 0 + 1
    = ap (λ v. v + 1) (c.in_ok-count.ensures.value ∙ ap (λ o. unwrap_or o 0) c.entry.ensures.value) in
    subst (PutsLast g.K.PartialEq.eq (state_of c.args.map.now) _ c.args.word) written (search rules)
