use Rattle.std.{proofs.Common.{All, nat_eq, ◌≤◌}, proofs.lemmas.Bool.eqb-true}
use Rattle.std.specs.Set.{remove_key}
use Rattle.hashlink.proofs.CallerLemmas.{keys-put_back, number_of_last-from_All, ordered-inserts}
use Rattle.hashlink.proofs.CallerLemmas.{put_back-number, stored_key-seen}
use Rattle.hashlink_uses.proofs.Common.{[], ap, entries_of, keys_of, nat_eq_equiv, state_of, subst, sym}
use Rattle.hashlink_uses.proofs.Common.{◌++◌, ◌∙◌, ◌∷◌}
use Rattle.hashlink_uses.proofs.sessions.Sessions.open.Goals as goal

pub invariant_of-self-2 : goal.invariant_of-self-2
invariant_of-self-2 c =
    (ordered-inserts (λ e. e.1) (state_of c.self.inside.last_uses) (state_of c.insert.new.self) nat_eq
    c.args.session c.args.now c.insert.result c.insert.ensures.inserts c.self.invariant
    (number_of_last-from_All (λ e. e.1) (entries_of c.self.inside.last_uses) c.args.now
    (subst (All (λ e. e.1 ≤ c.args.now)) (sym c.self.view_is) c.requires))).0

pub returns-clause-opened : goal.returns-clause-opened
returns-clause-opened c =
    rw (← c.self.view_is) (c.in-Ok.ensures.entries ∙ put_back-number c.args.session _ c.args.now)

pub returns-clause-order : goal.returns-clause-order
returns-clause-order c =
    let es = entries_of c.self.inside.last_uses in
    rw (← c.self.view_is) (ap keys_of c.in-Ok.ensures.entries
    ∙ keys-put_back nat_eq nat_eq_equiv es c.args.session c.args.now
    ∙ ap (λ k. remove_key (nat_eq c.args.session) (keys_of es) ++ k ∷ [])
    (stored_key-seen nat_eq es c.args.session nat_eq_equiv (λ k. k) eqb-true))
