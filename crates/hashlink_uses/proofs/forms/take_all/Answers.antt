use Rattle.std.{proofs.Common.{List, Option, Result, Ok, Err, IfOk, ◌≡◌}, specs.Iterator.DrainsIf}
use Rattle.std.specs.Map.Iter.{TakesFirst}
use Rattle.hashlink.{proofs.CallerLemmas.given_all, specs.MapDrain.{DrainSteps, drain_rest}}
use Rattle.hashlink_uses.proofs.Common.{ap, sym, ◌∙◌}
use Rattle.hashlink_uses.proofs.forms.take_all.Goals as goal

collected : {V E I X : Type 0} (steps : I → Option X → I → Type 0) (rest : I → List X)
    → ((i : I) (o : Option X) (j : I) → steps i o j → TakesFirst (λ x. x) (rest i) o (rest j))
    → (i : I) (es : List X) → rest i ≡ es → (items : V → List X) (L : V → List X → Type 0) (r : Result V E)
    → IfOk r (λ v. (x : List X) × DrainsIf steps (Unit {0}) i x × ((items v ≡ x) × L v x))
    → IfOk r (λ v. items v ≡ es)
collected steps rest takes i es is items L (Ok v) ran =
    ran.2.0 ∙ sym (given_all steps rest takes tt i ran.0 ran.1) ∙ is
collected steps rest takes i es is items L (Err e) ran = tt

pub returns-clause-pairs : goal.returns-clause-pairs
returns-clause-pairs g c =
    collected DrainSteps drain_rest (λ i o j s. s.takes) c.drain.result _
    (ap (λ m. m.entries) c.drain.ensures.unchanged)
    (λ v. v.items) _ c.collect-pairs.result c.collect-pairs.ensures.ran
