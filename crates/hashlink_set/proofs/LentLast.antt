-- The state in which a set ends after its last element was lent, from the steps before. Assumes `Logic`.
use Rattle.hashlink_set.proofs.Names.{◌≡◌, Option, None, Some, Ok, Err, Result, Bool, [], ◌∷◌, refl, sym, ap}
use Rattle.hashlink_set.proofs.Names.{subst, ◌∙◌, SProp, ent, sep, emp, fact, fact_i, sem, ‵, raw, ◌⊛◌, ◌$◌}
use Rattle.hashlink_set.proofs.Names.{◌∵◌, !, qed, move, join, split, use0, fpick, Lfts, RattleType, IfOk}
use Rattle.hashlink_set.proofs.Names.{IfErr, IsSome, option_copied, Bor, find, UnwrapsOrElse, SetState}
use Rattle.hashlink_set.proofs.Names.{elements_of, stored_element, GetsOrInserts, last_of, GetsOrMakes}
use Rattle.hashlink_set.proofs.{Names.{SetInserts, as_seen, LastOrRefused}, Stored.inserted_last}
use seplogic.Ra.Ura.{Ura}
use types.{Logic.Logic, Kit.{fpack, done}}
use base.Fml.{ftrue, flft}
use contract.Lifetimes.{Shares, toks}
use mathlib.Core.Option.{none}
use denote.Follow.{follows_by, such_by}
use Rattle.std.specs.{Prelude.⊤, Borrow.{Fml, GName, follows_so, follows_if}, Result.result_err}

module _ {M : Type 1} (𝓤 : Ura M) (A B C : Type 0) where
  -- what a call requires: three facts on lifetimes, and R
  abbrev pub Asks : SProp 𝓤 → SProp 𝓤
  Asks R = sep 𝓤 (fact 𝓤 A) (sep 𝓤 (fact 𝓤 B) (sep 𝓤 (fact 𝓤 C) R))

  pub asked : (𝓛 : Logic 𝓤) (R : SProp 𝓤) → A → B → C → ent 𝓤 R (Asks R)
  asked 𝓛 R a b c =
      qed 𝓛 (raw R ∷ []) ∵ use0 𝓛 (raw (fact 𝓤 C)) (fact_i 𝓤 C (emp 𝓤) c) $ join ! $
      use0 𝓛 (raw (fact 𝓤 B)) (fact_i 𝓤 B (emp 𝓤) b) $ join ! $
      use0 𝓛 (raw (fact 𝓤 A)) (fact_i 𝓤 A (emp 𝓤) a) $ join ! $ done !

module _ {M : Type 1} {𝓤 : Ura M} (𝓛 : Logic 𝓤) (R : RattleType) (P P' : R.Denot → Type 0) where
  abbrev So : GName → (R.Denot → Type 0) → Fml
  So n Q = follows_so R R n none (λ _ _. ⊤) Q

  -- a set that ends as P allows also ends as P' allows
  pub ends_so : (n n' : GName) → n ≡ n' → ((new : R.Denot) → P new → P' new)
      → ent 𝓤 (sem 𝓛 (So n P)) (sem 𝓛 (So n' P'))
  unfolding follows_by such_by
  ends_so n n' same go =
      subst (λ (m : GName). ent 𝓤 (sem 𝓛 (So n P)) (sem 𝓛 (So m P'))) same (qed 𝓛 (‵ (So n P) ∷ []) ∵ fpick !
      (λ s.
      fpack ! ((s : (R.Denot → R.Denot) × R.Denot) × ((u : R.Denot) → ⊤) × P' s.1)
      (λ s. follows_if R R n none s.0.0 s.0.1) ((s.0.0, s.0.1), (λ u. tt), go s.0.1 s.2)
      $ done !))

module _ {M : Type 1} {𝓤 : Ura M} (𝓛 : Logic 𝓤) (κs : Lfts 6) (qs : Shares 6) where
  -- the lifetimes that remain after an element was made: those of the given element and of the closure have
  -- ended
  abbrev pub lifetimes_left : Lfts 4
  lifetimes_left = (κs.0, (κs.1.1.0, (κs.1.1.1.0, (κs.1.1.1.1.0, tt))))

  abbrev pub shares_left : Shares 4
  shares_left = (qs.0, (qs.1.1.0, (qs.1.1.1.0, (qs.1.1.1.1.0, tt))))

  abbrev pub Left : SProp 𝓤
  Left = toks 𝓛 4 lifetimes_left shares_left

  -- the tokens of the other two
  abbrev pub Aside : SProp 𝓤
  Aside = sep 𝓤 (sem 𝓛 (flft κs.1.0 qs.1.0)) (sem 𝓛 (flft κs.1.1.1.1.1.0 qs.1.1.1.1.1.0))

  pub set_aside : ent 𝓤 (toks 𝓛 6 κs qs) (sep 𝓤 Left Aside)
  set_aside =
      qed 𝓛 ((‵ (flft κs.0 qs.0) ⊛ ‵ (flft κs.1.0 qs.1.0) ⊛ ‵ (flft κs.1.1.0 qs.1.1.0)
      ⊛ ‵ (flft κs.1.1.1.0 qs.1.1.1.0) ⊛ ‵ (flft κs.1.1.1.1.0 qs.1.1.1.1.0)
      ⊛ ‵ (flft κs.1.1.1.1.1.0 qs.1.1.1.1.1.0) ⊛ ‵ ftrue) ∷ []) ∵
      split ! $ move ! (1 ∷ []) $ split ! $ move ! (1 ∷ []) $ split ! $ move ! (1 ∷ []) $ split ! $
      move ! (1 ∷ []) $ split ! $ move ! (1 ∷ []) $ split ! $
      -- [the sixth; none; the fifth, the fourth, the third, the second, the first]
      move ! (2 ∷ 1 ∷ []) $ join ! $ move ! (2 ∷ 0 ∷ []) $ join ! $ move ! (2 ∷ 0 ∷ []) $ join ! $
      move ! (3 ∷ 0 ∷ []) $ join ! $ move ! (2 ∷ 1 ∷ []) $ join ! $ move ! (1 ∷ 0 ∷ []) $ join ! $ done !

  pub taken_back : ent 𝓤 (sep 𝓤 Left Aside) (toks 𝓛 6 κs qs)
  taken_back =
      qed 𝓛 (((‵ (flft κs.0 qs.0) ⊛ ‵ (flft κs.1.1.0 qs.1.1.0) ⊛ ‵ (flft κs.1.1.1.0 qs.1.1.1.0)
      ⊛ ‵ (flft κs.1.1.1.1.0 qs.1.1.1.1.0) ⊛ ‵ ftrue)
      ⊛ (‵ (flft κs.1.0 qs.1.0) ⊛ ‵ (flft κs.1.1.1.1.1.0 qs.1.1.1.1.1.0))) ∷ []) ∵
      split ! $ split ! $ move ! (1 ∷ []) $ split ! $ move ! (1 ∷ []) $ split ! $ move ! (1 ∷ []) $ split ! $
      -- [the fifth; none; the fourth, the third, the first; the others]
      move ! (5 ∷ []) $ split ! $
      -- [the second; the sixth; the fifth; none; the fourth, the third, the first]
      move ! (1 ∷ 3 ∷ []) $ join ! $ move ! (2 ∷ 0 ∷ []) $ join ! $ move ! (2 ∷ 0 ∷ []) $ join ! $
      move ! (2 ∷ 0 ∷ []) $ join ! $ move ! (1 ∷ 0 ∷ []) $ join ! $ move ! (1 ∷ 0 ∷ []) $ join ! $ done !

module _ {T S : Type 0} (new : SetState T S) (G : Result T T → Type 0) where
  -- if nothing was refused, there is a last element
  pub there_is_last : (y : Option T) (o : Option (Bor T)) → LastOrRefused new G y
      → option_copied o ≡ last_of (elements_of new) → y ≡ None → IsSome o
  there_is_last None None s is empty = absurd (cc (is, s.1))
  there_is_last None (Some x) s is empty = refl
  there_is_last (Some y) o s is empty = absurd (cc)

  -- and then G holds for what is returned
  pub given : (y : Option T) (o : Option (Bor T)) (a : Result (Bor T) T) → LastOrRefused new G y
      → option_copied o ≡ last_of (elements_of new)
      → IfOk a (λ x. (y ≡ None) × (option_copied o ≡ Some x.now)) → IfErr a (λ x. y ≡ Some x) → G (as_seen a)
  given y o (Ok x) s is lent refused =
      let put = subst (LastOrRefused new G) lent.0 s in
      let stands : Some put.0 ≡ Some x.now = sym (sym lent.1 ∙ is ∙ put.1) in
      let same : put.0 ≡ x.now = cc in subst (λ z. G (Ok z)) same put.2
  given y o (Err x) s is lent refused = subst (LastOrRefused new G) refused s

-- the result is that of an insert
module _ {T S : Type 0} (eq : T → T → Bool) (old new : SetState T S) (t : T) where
  pub inserted : (r : Result Bool T) → SetInserts eq old new t r
      → LastOrRefused new (GetsOrInserts eq old new t) (result_err r)
  inserted (Ok b) s = (stored_element eq (elements_of old) t, inserted_last eq old new t b s, (b, s, refl))
  inserted (Err x) s = s

  pub is_stored : (a : Result (Bor T) T) → GetsOrInserts eq old new t (as_seen a)
      → IfOk a (λ x. x.now ≡ stored_element eq (elements_of old) t)
  is_stored (Ok x) s = s.2
  is_stored (Err x) s = tt

  pub is_given : (a : Result (Bor T) T) → GetsOrInserts eq old new t (as_seen a) → IfErr a (λ x. x ≡ t)
  is_given (Ok x) s = tt
  is_given (Err x) s = ap (λ e. e.0) s.handed_back

-- or of an insert of an element that a closure may make
module _ {T S : Type 0} (eq : T → T → Bool) (Makes : T → Type 0) (old new : SetState T S) (t : T) where
  pub is_lent : (a : Result (Bor T) T) → GetsOrMakes eq Makes old new t (as_seen a)
      → IfOk a (λ x. UnwrapsOrElse (find (eq t) (elements_of old)) Makes x.now)
  is_lent (Ok x) s = s.0
  is_lent (Err x) s = tt

  pub is_made : (a : Result (Bor T) T) → GetsOrMakes eq Makes old new t (as_seen a) → IfErr a Makes
  is_made (Ok x) s = tt
  is_made (Err x) s = s.1
