use Rattle.std.proofs.{Common.{ℕ, ◌*◌}, lemmas.Bool.eqb-true}
use Rattle.hashlink.{proofs.CallerLemmas.{All-found_or_made, All-used}, specs.Cached.entries_of}
use Rattle.hashlink_uses.proofs.Common.{ap, is_ok, nat_eq, nat_eq_equiv, rules, ◌∙◌, ◌≡◌}
use Rattle.hashlink_uses.proofs.memo.Squares.get.Goals as goal

abbrev IsSquare : ℕ × ℕ → Type 0
IsSquare e = e.1 ≡ e.0 * e.0

pub returns-in-Ok : goal.returns-in-Ok
returns-in-Ok c =
    All-found_or_made IsSquare (nat_eq c.args.number) (entries_of c.args.self.now.cache) c.args.number
    (eqb-true c.args.number) c.args.self.now.right _ (λ v made. search rules) _ c.in-Ok.ensures.value

pub invariant_of-self : goal.invariant_of-self
invariant_of-self c =
    let n = c.args.number in
    let square = All-found_or_made IsSquare (nat_eq n) (entries_of c.args.self.now.cache) n (eqb-true n)
    c.args.self.now.right _ (λ v made. search rules) _ c.in-Ok.ensures.value in
    let used = c.get_or_insert_with.follows.holds c.in-Ok.square.now (ap is_ok c.in-Ok.is) in
    record {
      right = All-used nat_eq _ _ n c.in-Ok.square.now IsSquare nat_eq_equiv used.0
          (λ q t. square ∙ ap (λ k. k * k) (eqb-true n q t)) c.args.self.now.right;
    }
