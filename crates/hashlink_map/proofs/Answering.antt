-- What the results of an entry's calls state.
use Rattle.hashlink_map.proofs.Names.{◌≡◌, Bool, Option, Some, refl, sym, ap, subst, Result, Ok, Err}
use Rattle.hashlink_map.proofs.Names.{IfOk, IfErr, OnErr, length, MutBor, UnwrapsOrElse, MapState}
use Rattle.hashlink_map.proofs.Names.{AddsEntry, RefusesEntry, PutsLast}

module _ {V E : Type 0} where
  -- the value now in the entry is lent
  pub or_made : (r : Result (MutBor V) E) (o : Option V) (P : V → Type 0) → IfOk r (λ v. o ≡ Some v.now)
      → IfOk r (λ v. UnwrapsOrElse o P v.now)
  or_made (Ok v) o P h = subst (λ x. UnwrapsOrElse x P v.now) (sym h) refl
  or_made (Err e) o P h = tt

  -- the call was not refused
  pub no_refusal : (r : Result (MutBor V) E) (P : Type 0) → OnErr r ⊥ → OnErr r P
  no_refusal (Ok v) P h = tt
  no_refusal (Err e) P h = absurd h

  pub no_pair : (r : Result (MutBor V) E) (P : E → Type 0) → OnErr r ⊥ → IfErr r P
  no_pair (Ok v) P h = tt
  no_pair (Err e) P h = absurd h

-- an insert into a vacant entry is one at the end
pub vacant_puts : {K V S : Type 0} {eq : K → K → Bool} {old new : MapState K V S} {k : K} {v : V}
    → AddsEntry eq old new k v (length old.entries)
    → PutsLast eq old new k v
vacant_puts s = rw s.absent s

-- a refusal of the given key and of a value that is handed back
pub vacant_refuses : {K V S A : Type 0} (eq : K → K → Bool) (old new : MapState K V S) (k : K) (v : V)
    (r : Result A (K × V))
    → OnErr r (IfErr r (RefusesEntry eq old new k v)) → IfErr r (λ e. e ≡ (k, v))
    → OnErr r (IfErr r (λ e. RefusesEntry eq old new k e.1 e))
vacant_refuses eq old new k v (Ok a) refuses is = tt
vacant_refuses eq old new k v (Err e) refuses is =
    subst (λ u. RefusesEntry eq old new k u e) (sym (ap (λ x. x.1) is)) refuses
