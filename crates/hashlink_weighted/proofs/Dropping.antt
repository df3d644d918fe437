-- Entries are dropped from the front, one by one, until the weights fit the budget.
use Rattle.std.proofs.Common.{◌≡◌, ℕ, ◌+◌, ◌-◌, ◌<◌, ◌≤◌, List, [], ◌∷◌, ◌++◌, length, drop, None, Some, refl}
use Rattle.std.proofs.{Common.{sym, ap, ◌∙◌, subst, arith}, lemmas.Bool.lt-leb}
use Rattle.std.proofs.lemmas.{List.length-append, Option.none-some}
use Rattle.hashlink_model.specs.{MapState.MapState, Steps.{KeepsOnly, PopsFront}, Walk.first_of}
use Rattle.hashlink_model.{specs.Weights.{total_weight, fitting}, proofs.Pops.pops_front}
use Rattle.hashlink_model.proofs.{NodeCounts.{removes_keeps, keeps_twice}, Weighted.fitting-whole}
use Rattle.hashlink_weighted.{specs.Weighed.{HasTotal, LastWeighs}, proofs.Totals.{total-cons, total-append}}

module _ {K V S : Type 0} where
  -- the state after some entries were dropped
  pub record HasDropped (old new : MapState K (V × ℕ) S) (others weight budget : ℕ) : Type 0 where
    pub keeps : KeepsOnly old new new.entries
    pub last : LastWeighs new.entries others weight
    pub same : fitting new.entries budget ≡ fitting old.entries budget

-- if a list weighs too much, its first entry is not in its fitting end
pub fitting-drops : {K V : Type 0} (e : K × (V × ℕ)) (es : List (K × (V × ℕ))) (budget : ℕ)
    → budget < total_weight (e ∷ es)
    → fitting (e ∷ es) budget ≡ fitting es budget
fitting-drops e es budget l = rw (lt-leb (total_weight (e ∷ es)) budget l) refl

-- if the other entries have a weight, the first entry is not the last one, and without it the others weigh
-- less by its weight
first_leaves : {K V : Type 0} (e : K × (V × ℕ)) (rest : List (K × (V × ℕ))) (others weight : ℕ)
    → LastWeighs (e ∷ rest) others weight → 0 < others
    → (e.1.1 ≤ others) × LastWeighs rest (others - e.1.1) weight
first_leaves {K} {V} e rest others weight l p = by l.before l.split l.others_weigh
  where
    by : (before : List (K × (V × ℕ))) → e ∷ rest ≡ before ++ l.last ∷ [] → total_weight before ≡ others
        → (e.1.1 ≤ others) × LastWeighs rest (others - e.1.1) weight
    by [] s o = absurd (omega arith)
    by (f ∷ before) s o =
        let same : e ≡ f = cc in
        let weighs = ap (λ x. x.1.1) same in
        let all = total-cons f before in (
          omega arith,
          record {
            before = before;
            last = l.last;
            split = cc;
            others_weigh = omega arith;
            last_weighs = l.last_weighs;
          },
        )

pub total-last : {K V : Type 0} (es : List (K × (V × ℕ))) (others weight : ℕ) → LastWeighs es others weight
    → total_weight es ≡ others + weight
total-last es others weight l =
    omega (arith, ap total_weight l.split, total-append l.before (l.last ∷ []), total-cons l.last [])

module _ {K V S : Type 0} (old between new : MapState K (V × ℕ) S) (others weight budget : ℕ) where
  -- one more entry was dropped, which weighs at most what the others weigh
  pub drops_one : HasDropped old between others weight budget → weight ≤ budget → budget - weight < others
      → (f : K × (V × ℕ)) → PopsFront between new (Some f)
      → (f.1.1 ≤ others) × HasDropped old new (others - f.1.1) weight budget
  drops_one d n over f pops =
      let split = (pops_front between new f pops).0 in
      let last = subst (λ es. LastWeighs es others weight) split d.last in
      let left = first_leaves f new.entries others weight last (omega arith) in
      let total = total-last (f ∷ new.entries) others weight last in
      let step = removes_keeps between new (drop 1 between.entries) pops.step in (
        left.0,
        record {
          keeps = subst (KeepsOnly old new) (sym pops.step.entries)
              (keeps_twice old between new between.entries (drop 1 between.entries) d.keeps step);
          last = left.1;
          same = sym (fitting-drops f new.entries budget (omega arith))
              ∙ ap (λ es. fitting es budget) (sym split) ∙ d.same;
        },
      )

  pub not_none : HasDropped old between others weight budget → budget - weight < others
      → PopsFront between new None
      → ⊥
  not_none d over pops =
      by between.entries pops.answer (ap length d.last.split ∙ length-append d.last.before (d.last.last ∷ []))
    where
      by : (es : List (K × (V × ℕ))) → None ≡ first_of es → length es ≡ length d.last.before + 1 → ⊥
      by [] none long = omega arith
      by (e ∷ es) none long = none-some e none

-- the entries left after the weights fit
pub drops_enough : {K V S : Type 0} (old new : MapState K (V × ℕ) S) (others weight budget : ℕ)
    → HasDropped old new others weight budget → weight ≤ budget → others ≤ budget - weight
    → KeepsOnly old new (fitting old.entries budget) × HasTotal new.entries (others + weight) budget
drops_enough old new others weight budget d n fits =
    let t = total-last new.entries others weight d.last in
    let within : total_weight new.entries ≤ budget = omega arith in (
      subst (KeepsOnly old new) (sym (fitting-whole new.entries budget within) ∙ d.same) d.keeps,
      record { sum = omega arith; within = omega arith },
    )
