-- A cursor that has done some of its steps.
use Rattle.hashlink_run.proofs.Names.{ℕ, Bool, List, [], ◌∷◌, ◌++◌, ◌≡◌, refl, sym, ap₂, subst, append_assoc}
use Rattle.hashlink_run.proofs.Names.{append-nil, length, arith, CursorState, MapState, CursorStep, Reply}
use Rattle.hashlink_run.{proofs.Names.{CursorStepped, CursorWalks, first_place}, specs.CursorSteps.ReadOnWalk}

at_first : {K V S : Type 0} (m : MapState K V S) (now : CursorState K V S) → now.map ≡ m → now.place ≡ 0
    → now ≡ first_place m
at_first {K} {V} {S} m now map place =
    let cursor : MapState K V S → ℕ → CursorState K V S = λ m i. record { map = m; place = i } in
    ap₂ cursor map place

module _ {K V B S : Type 0} (eq : K → K → Bool) (Says : K → V → B → Type 0) where
  -- the replies to the steps that are left, appended to the replies so far, are the replies to all steps
  pub record WalksOn (start now : CursorState K V S) (all rest : List (CursorStep K V))
      (replies : List (Reply K V B)) : Type 0 where
    pub goes_on : (more : List (Reply K V B)) (new : CursorState K V S)
        → CursorWalks eq Says now rest more new
        → CursorWalks eq Says start all (replies ++ more) new

  -- at the first place, with all steps left
  pub WalksOn-first : (m : MapState K V S) (now : CursorState K V S) (all rest : List (CursorStep K V))
      → now.map ≡ m → now.place ≡ 0 → rest ≡ all → WalksOn (first_place m) now all rest []
  WalksOn-first m now all rest map place left =
      let first = at_first m now map place in
      record {
        goes_on = λ more new walk.
            subst (λ steps. CursorWalks eq Says (first_place m) steps more new) left
            (subst (λ from. CursorWalks eq Says from rest more new) first walk);
      }

  -- a pair that the remaining steps read is read on the whole walk
  pub read_from_first : (m : MapState K V S) (now : CursorState K V S) (all rest : List (CursorStep K V))
      → now.map ≡ m → now.place ≡ 0 → rest ≡ all
      → (pair : K × V) → ReadOnWalk eq Says now rest pair → ReadOnWalk eq Says (first_place m) all pair
  read_from_first m now all rest map place left pair read =
      subst (λ steps. ReadOnWalk eq Says (first_place m) steps pair) left
      (subst (λ from. ReadOnWalk eq Says from rest pair) (at_first m now map place) read)

  module _ {start now : CursorState K V S} {all : List (CursorStep K V)} {replies : List (Reply K V B)} where
    pub WalksOn-step : (step : CursorStep K V) (rest : List (CursorStep K V)) (reply : Reply K V B)
        (next : CursorState K V S) → WalksOn start now all (step ∷ rest) replies
        → CursorStepped eq Says now step (reply ∷ []) next
        → WalksOn start next all rest (replies ++ reply ∷ [])
    WalksOn-step step rest reply next so_far stepped = record {
      goes_on = λ more new walk.
          subst (λ r. CursorWalks eq Says start all r new) (sym (append_assoc replies (reply ∷ []) more))
          (so_far.goes_on (reply ∷ more) new (reply ∷ [], next, more, stepped, walk, refl));
    }

    pub WalksOn-end : (rest : List (CursorStep K V)) → length rest ≡ 0 → WalksOn start now all rest replies
        → CursorWalks eq Says start all replies now
    WalksOn-end [] none so_far =
        subst (λ r. CursorWalks eq Says start all r now) (append-nil replies)
        (so_far.goes_on [] now (refl, refl))
    WalksOn-end (step ∷ rest) none so_far = absurd (omega arith)
