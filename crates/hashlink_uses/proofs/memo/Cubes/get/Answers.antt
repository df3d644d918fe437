use Rattle.std.proofs.{Common.{All, Option, ℕ, ◌<◌, ◌^◌, ◌≤◌, arith}, lemmas.Bool.eqb-true}
use Rattle.hashlink.{proofs.CallerLemmas.{All-found, All-found_or_made, All-used}, specs.Cached.entries_of}
use Rattle.hashlink_uses.proofs.Common.{List, None, Some, ap, is_ok, lookup, nat_eq, nat_eq_equiv, refl}
use Rattle.hashlink_uses.proofs.Common.{rules, ◌∙◌, ◌≡◌}
use Rattle.hashlink_uses.proofs.memo.Cubes.get.Goals as goal

abbrev IsCube : ℕ × ℕ → Type 0
IsCube e = (e.1 ≡ e.0 ^ 3) × (e.1 < 2 ^ 64)

-- the cube of a number that is remembered has 64 bits
is_not_known : (n : ℕ) (es : List (ℕ × ℕ)) → All IsCube es → 2 ^ 64 ≤ n ^ 3 → lookup (nat_eq n) es ≡ None
is_not_known n es all large = by (lookup (nat_eq n) es) refl
  where
    by : (o : Option ℕ) → lookup (nat_eq n) es ≡ o → o ≡ None
    by None found = refl
    by (Some w) found =
        let known = All-found IsCube (nat_eq n) es w found all in
        absurd (omega (arith, large, known.1.0, known.1.1, ap (λ k. k ^ 3) (eqb-true n known.0 known.2)))

pub returns-in-Ok-clause-right : goal.returns-in-Ok-clause-right
returns-in-Ok-clause-right c =
    (All-found_or_made IsCube (nat_eq c.args.number) (entries_of c.args.self.now.cache) c.args.number
    (eqb-true c.args.number) c.args.self.now.right _ (λ v made. search rules) _ c.in-Ok.ensures.value).0

pub returns-in-Ok-clause-too_large : goal.returns-in-Ok-clause-too_large
returns-in-Ok-clause-too_large c =
    let right = returns-in-Ok-clause-right c in
    grind (arith, right)

pub invariant_of-self : goal.invariant_of-self
invariant_of-self c =
    let n = c.args.number in
    let cube = All-found_or_made IsCube (nat_eq n) (entries_of c.args.self.now.cache) n (eqb-true n)
    c.args.self.now.right _ (λ v made. search rules) _ c.in-Ok.ensures.value in
    let used = c.get_or_try_insert_with-made.follows.holds c.in-Ok.cube.now (ap is_ok c.in-Ok.is) in
    record {
      right = All-used nat_eq _ _ n c.in-Ok.cube.now IsCube nat_eq_equiv used.0
          (λ q t. (cube.0 ∙ ap (λ k. k ^ 3) (eqb-true n q t), cube.1)) c.args.self.now.right;
    }

pub returns-in-Err-Make-clause-known : goal.returns-in-Err-Make-clause-known
returns-in-Err-Make-clause-known c =
    let large : 2 ^ 64 ≤ c.args.number ^ 3 = search rules in
    rw (is_not_known c.args.number (entries_of c.args.self.now.cache) c.args.self.now.right large) tt
