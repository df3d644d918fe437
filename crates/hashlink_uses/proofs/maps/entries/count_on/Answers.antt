use Rattle.std.proofs.Common.{◌≡◌, ◌+◌, ℕ, Option, Some, None, ap, refl, subst, is_ok, rules}
use Rattle.std.specs.{Prelude.{unwrap_or, option_map, IsOk, OnErr, IfErr}, Map.lookup}
use Rattle.hashlink.specs.{Keyed.{state_of, entries_of}, MapEntry.entry_state, MapEntryLends.PutsLast}
use Rattle.hashlink.{specs.MapState.RefusesEntry, proofs.Modified.{inserts_modified, refuses_modified}}
use Rattle.hashlink_uses.proofs.maps.entries.count_on.Goals as goal

one_more : (o : Option ℕ) → unwrap_or (option_map (λ n. n + 1) o) 1 ≡ unwrap_or o 0 + 1
one_more None = refl
one_more (Some n) = refl

pub returns-in_err-or_insert-clause-refused : goal.returns-in_err-or_insert-clause-refused
returns-in_err-or_insert-clause-refused g c =
    let eq = g.K.PartialEq.eq in
    let m = state_of c.args.map.now in
    let e = entry_state c.and_modify.result in
    let new = state_of c.or_insert.follows.lender-at-none in
    let pair = c.in_err-or_insert.field-0.0 in
    let refused : RefusesEntry eq e.map new e.key pair.1 pair =
    subst (λ r. OnErr r (IfErr r (λ p. RefusesEntry eq e.map new e.key p.1 p))) c.in_err-or_insert.was
    c.or_insert.follows.holds-at-none
    in
    let before : RefusesEntry eq m new c.args.word pair.1 pair =
    refuses_modified eq _ _ m c.args.word _ _ c.entry.ensures.entry c.and_modify.ensures.modifies new pair.1
    pair refused
    in
    let one : RefusesEntry eq m new c.args.word 1 pair =
    subst (λ d. RefusesEntry eq m new c.args.word d pair)
    (ap (λ p. p.1) c.in_err-or_insert.ensures.handed_back) before
    in
    search rules

pub returns-clause-counts : goal.returns-clause-counts
returns-clause-counts g c =
    let eq = g.K.PartialEq.eq in
    let m = state_of c.args.map.now in
    let f = c.or_insert.follows in
    let u = c.in_ok-or_insert.field-0.now in
    let ok : IsOk c.or_insert.result = ap is_ok c.in_ok-or_insert.was in
    let put = inserts_modified eq _ _ m c.args.word (λ n. n + 1) (λ x y returned. search rules) _ _
    c.entry.ensures.entry c.and_modify.ensures.modifies (state_of (f.lender u)) u 1
    c.in_ok-or_insert.ensures.value (f.holds u ok)
    in
    let counted : PutsLast eq m (state_of (f.lender u)) c.args.word
    (unwrap_or (lookup (eq c.args.word) (entries_of c.args.map.now)) 0 + 1) =
    subst (PutsLast eq m (state_of (f.lender u)) c.args.word)
    (one_more (lookup (eq c.args.word) (entries_of c.args.map.now))) put
    in
    search rules
