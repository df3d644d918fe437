-- The calls of a closure on the evicted entries.
use Rattle.std.proofs.Common.{◌≡◌, ℕ, ◌-◌, ◌<◌, ◌≤◌, List, [], ◌∷◌, Some, refl, sym, ap, ◌∙◌, subst, arith}
use Rattle.std.{proofs.Common.{◌++◌, true, false, cond}, specs.Prelude.nat_le, specs.Fn.{Called, Mut, Takes}}
use Rattle.std.proofs.lemmas.Bool.{le-leb, lt-leb}
use Rattle.hashlink_model.specs.{MapState.MapState, Steps.PopsFront, Weights.{fitting, total_weight}}
use Rattle.hashlink_model.proofs.Pops.{pops_front}
use Rattle.hashlink_weighted.specs.{Evicted.{IsGivenEach, TakesEach, not_fitting}, Weighed.LastWeighs}
use Rattle.hashlink_weighted.proofs.Dropping.{total-last}

module _ {K V : Type 0} where
  -- if a list weighs too much, its first entry is evicted, and then the others that do not fit
  not_fitting-first : (e : K × (V × ℕ)) (es : List (K × (V × ℕ))) (budget : ℕ)
      → budget < total_weight (e ∷ es)
      → not_fitting (e ∷ es) budget ≡ e ∷ not_fitting es budget
  not_fitting-first e es budget l = rw (lt-leb (total_weight (e ∷ es)) budget l) refl

  not_fitting-none : (es : List (K × (V × ℕ))) (budget : ℕ) → total_weight es ≤ budget
      → not_fitting es budget ≡ []
  not_fitting-none [] budget l = refl
  not_fitting-none (e ∷ es) budget l = rw (le-leb (total_weight (e ∷ es)) budget l) refl

  -- the evicted entries are in front of the entries that stay
  pub evicted_before : (es : List (K × (V × ℕ))) (budget : ℕ)
      → not_fitting es budget ++ fitting es budget ≡ es
  evicted_before [] budget = refl
  evicted_before (e ∷ es) budget =
      elim (nat_le (total_weight (e ∷ es)) budget)
      as (λ b. cond b [] (e ∷ not_fitting es budget) ++ cond b (e ∷ es) (fitting es budget) ≡ e ∷ es)
      [ true ↦ refl | false ↦ ap (λ zs. e ∷ zs) (evicted_before es budget) ]

module _ {F K V : Type 0} (calls : Mut F (K × (V × Unit {0})) (Unit {0})) (first : F)
    (all : List (K × (V × ℕ))) (budget : ℕ) where
  -- the state after some calls: f may be called on the entries of `left` still to be evicted, and if its
  -- calls on them end in a state, then all calls together end in it
  pub record Evicting (f : F) (left : List (K × (V × ℕ))) : Type 0 where
    pub takes : TakesEach calls f (not_fitting left budget)
    pub gives : (last : F) → IsGivenEach calls f (not_fitting left budget) last
        → IsGivenEach calls first (not_fitting all budget) last

  pub begins : TakesEach calls first (not_fitting all budget) → Evicting first all
  begins t = record { takes = t; gives = λ last h. h }

  module _ {S : Type 0} (f : F) (between new : MapState K (V × ℕ) S) (others weight : ℕ)
      (last : LastWeighs between.entries others weight) (fits : weight ≤ budget)
      (over : budget - weight < others) (s : Evicting f between.entries) (e : K × (V × ℕ))
      (pops : PopsFront between new (Some e)) where
    abbrev left : List (K × (V × ℕ))
    left = new.entries

    next : not_fitting between.entries budget ≡ e ∷ not_fitting left budget
    next =
        let t = total-last between.entries others weight last in
        let heavy : budget < total_weight between.entries = omega arith in
        let split : between.entries ≡ e ∷ left = (pops_front between new e pops).0 in
        ap (λ zs. not_fitting zs budget) split
        ∙ not_fitting-first e left budget (subst (λ zs. budget < total_weight zs) split heavy)

    takes_next : TakesEach calls f (e ∷ not_fitting left budget)
    takes_next = subst (TakesEach calls f) next s.takes

    -- f may be called on the first entry
    pub may_give : Takes calls f (e.0, (e.1.0, tt))
    may_give = takes_next.at [] (not_fitting left budget) e f refl refl

    -- after that call, one entry fewer is left to evict
    pub given : (g : F) → Called calls f (e.0, (e.1.0, tt)) tt g → Evicting g left
    given g call =
        record {
          takes =
              record {
                at = λ before after x h is gave.
                    takes_next.at (e ∷ before) after x h (ap (λ zs. e ∷ zs) is) (g, call, gave);
              };
          gives = λ end rest.
              s.gives end (subst (λ zs. IsGivenEach calls f zs end) (sym next) (g, call, rest));
        }

  -- if all entries fit, none is left to evict
  pub given_all : (f : F) (es : List (K × (V × ℕ))) (others weight : ℕ) → LastWeighs es others weight
      → weight ≤ budget → others ≤ budget - weight → Evicting f es
      → IsGivenEach calls first (not_fitting all budget) f
  given_all f es others weight last n fits s =
      let t = total-last es others weight last in
      let light : total_weight es ≤ budget = omega arith in
      s.gives f (subst (λ zs. IsGivenEach calls f zs f) (sym (not_fitting-none es budget light)) refl)
