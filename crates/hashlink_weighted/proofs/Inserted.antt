-- An insert into the map with a weight, and the fitting end after it.
use Rattle.std.proofs.Common.{◌≡◌, ℕ, ◌-◌, ◌≤◌, Bool, List, Option, Some, length, refl, sym, ap, subst, arith}
use Rattle.std.{proofs.Common.◌∙◌, specs.Map.lookup}
use Rattle.hashlink_model.specs.{Cache.InsertsLast, Entries.{put, without, stored_key}, MapState.MapState}
use Rattle.hashlink_model.specs.{Steps.KeepsOnly, Walk.last_of, Weights.{total_weight, fitting, weighted_put}}
use Rattle.hashlink_model.proofs.{CacheSteps.{put_entries, put_answer}, Places.{last_of-append, last_of-end}}
use Rattle.hashlink_model.proofs.{Puts.put_back, Weighted.{fitting-end, length-weighted_put}}
use Rattle.hashlink_weighted.specs.{Answers.{Accepts, without_weight}, Weighed.{LastWeighs, weight_or_none}}
use Rattle.hashlink_weighted.proofs.Totals.{last_weighs, total-without}

module _ {K V S : Type 0} (eq : K → K → Bool) (old between : MapState K (V × ℕ) S) (k : K) (v : V)
    (weight : ℕ) (w : Option (V × ℕ)) (s : InsertsLast eq k (v, weight) w old between) where
  answer : lookup (eq k) old.entries ≡ w
  answer = sym (put_answer eq old between k (v, weight) w s)

  -- the old weight is part of the total
  pub old_weight : (total : ℕ) → total ≡ total_weight old.entries → weight_or_none w ≤ total
  old_weight total t = let rest = total-without (eq k) old.entries w answer in omega arith

  -- the pair is the last one, and the other entries have the rest of the total
  pub leaves_last : (total : ℕ) → total ≡ total_weight old.entries
      → LastWeighs between.entries (total - weight_or_none w) weight
  leaves_last total t =
      subst (λ es. LastWeighs es (total - weight_or_none w) weight)
      (sym (put_entries eq old between k (v, weight) w s))
      (last_weighs eq old.entries k (v, weight) w total answer t)

  pub accepts : (new : MapState K (V × ℕ) S) (budget : ℕ) → weight ≤ budget
      → KeepsOnly between new (fitting between.entries budget)
      → Accepts eq (record { map = old; budget = budget }) (record { map = new; budget = budget }) k v weight
      (without_weight w)
  accepts new budget n keeps =
      record {
        inserts =
            record {
              not_too_heavy = n;
              between = between;
              inserts = subst (λ o. InsertsLast eq k (v, weight) o old between) (sym answer) s;
              keeps = keeps;
              budget = refl;
            };
        old_value = ap without_weight (sym answer);
      }

-- the pair is in the fitting end, and the last there
pub last_put : {K V : Type 0} (eq : K → K → Bool) (es : List (K × (V × ℕ))) (budget : ℕ)
    (k : K) (v : V) (weight : ℕ)
    → weight ≤ budget
    → last_of (weighted_put eq es budget k v weight) ≡ Some (stored_key eq es k, (v, weight))
last_put eq es budget k v weight n =
    let s = fitting-end (put eq es k (v, weight) (length es)) budget in
    sym (last_of-append s.0 (weighted_put eq es budget k v weight)
    (length-weighted_put eq es budget k v weight n))
    ∙ ap last_of (sym s.1 ∙ put_back eq es k (v, weight))
    ∙ last_of-end (without eq es k) (stored_key eq es k, (v, weight))
