-- What the proofs of a lent pair share: a node's one word, clauses, what calls require, and the tokens.
-- Assumes `Logic`.
use denote.Triple.Entry.{Res, Args}
use Rattle.hashlink_map.proofs.Names.{◌≡◌, List, [], ◌∷◌, ◌++◌, refl, subst, Ura, Val, vstruct, of_list, Fml}
use Rattle.hashlink_map.proofs.Names.{ftrue, SProp, ent, sep, emp, mono_r, fact, fact_i, Logic, sem, ℕ}
use Rattle.hashlink_map.proofs.Names.{Outlives, Slot, Kepts, Lfts, Ended, Clauses, plain, RattleType, Ptr}
use Rattle.hashlink_map.proofs.Names.{RawPtr, ptr_val, makes_shadow, nothing, heard, Shape, Struct, word}
use types.Kit.{Item, Goal, Seq, ‵, raw, ◌⊛◌, ◌$◌, ◌∵◌, !, qed, move, drop, split, join, use0, fsplit, fpick}
use types.Kit.{feq_l, done}

abbrev one_field : Shape
one_field = record { name = []; args = []; types = []; fields = RawPtr ∷ [] }

abbrev pub Word : RattleType
Word = Struct one_field

module _ {M : Type 1} {𝓤 : Ura M} {𝓛 : Logic 𝓤} {K : Type 0} {Γ : List (Item 𝓤)} {G : Goal 𝓤 𝓛.H} where
  pub word_had : K → (c : Ptr) (vs : List Val) → (vs ≡ word c ∷ [] → Seq K 𝓛 Γ G)
      → Seq K 𝓛 (‵ (Word.own_val (c, tt) vs) ∷ Γ) G
  word_had t c vs k =
      fpick t
      (λ vss. fsplit t $ feq_l t
      (λ ev. fsplit t $ feq_l t
      (λ e. drop t $ k (subst (λ (ws : List Val). vs ≡ vstruct (of_list (ws ++ [])) ∷ []) e ev))))

module _ {M : Type 1} {𝓤 : Ura M} (𝓛 : Logic 𝓤) where
  pub node_made : (c : Ptr) → ent 𝓤 (emp 𝓤) (sem 𝓛 (Word.own_val (c, tt) (word c ∷ [])))
  node_made c =
      makes_shadow 𝓛 (Word.own_val (c, tt) (word c ∷ [])) (λ vss. (tt, (tt, tt)))
      ((ptr_val c ∷ [], tt), (refl, (refl, tt)))

-- a function with this signature, and its clauses: what it requires, and what it ensures of its result
abbrev pub ended : (n : ℕ) → List (Outlives n) → (ss : List (Slot n)) → Kepts ss → (Lfts n → RattleType)
    → Ended
ended n O ss ks R = record {
  signature = record { lifetimes = n; outlives = O; params = ss; result = plain R };
  kept = ks;
}

abbrev pub clauses : {M : Type 1} (𝓤 : Ura M) (E : Ended)
    → ((κs : Lfts E.signature.lifetimes) → Args E.signature κs → SProp 𝓤)
    → ((κs : Lfts E.signature.lifetimes) → Args E.signature κs → Res E.signature κs → SProp 𝓤)
    → Clauses 𝓤 E
clauses 𝓤 E asks says κs a = record {
  ghost = Unit {0};
  requires = λ _. asks κs a;
  ensures = λ _ r end. says κs a r;
}

-- what a call requires: four facts on lifetimes, and R
module _ {M : Type 1} (𝓤 : Ura M) (A B C D : Type 0) where
  abbrev pub Asks : SProp 𝓤 → SProp 𝓤
  Asks R = sep 𝓤 (fact 𝓤 A) (sep 𝓤 (fact 𝓤 B) (sep 𝓤 (fact 𝓤 C) (sep 𝓤 (fact 𝓤 D) R)))

  -- with a fact in place of nothing
  pub adds_fact : (P : Type 0) → P → ent 𝓤 (Asks (emp 𝓤)) (Asks (fact 𝓤 P))
  adds_fact P is =
      mono_r 𝓤 (fact 𝓤 A) (mono_r 𝓤 (fact 𝓤 B)
      (mono_r 𝓤 (fact 𝓤 C) (mono_r 𝓤 (fact 𝓤 D) (fact_i 𝓤 P (emp 𝓤) is))))

  -- once more for another call, which requires no more than the four
  pub asks_again : (𝓛 : Logic 𝓤) (R : SProp 𝓤) → ent 𝓤 (Asks R) (sep 𝓤 (Asks R) (Asks (emp 𝓤)))
  asks_again 𝓛 R =
      let Fact : Type 0 → Item 𝓤 = λ X. raw (fact 𝓤 X) in
      let has : (X : Type 0) → X → ent 𝓤 (emp 𝓤) (fact 𝓤 X) = λ X x. fact_i 𝓤 X (emp 𝓤) x in
      qed 𝓛 (Fact A ∷ Fact B ∷ Fact C ∷ Fact D ∷ raw R ∷ []) ∵ heard ! A (λ a. heard ! B (λ b. heard ! C
      (λ c. heard ! D
      (λ d.
      use0 𝓛 (Fact D) (has D d) $ join ! $ use0 𝓛 (Fact C) (has C c) $ join ! $
      use0 𝓛 (Fact B) (has B b) $ join ! $
      use0 𝓛 (Fact A) (has A a) $ join ! $ nothing ! $ use0 𝓛 (Fact D) (has D d) $ join ! $
      use0 𝓛 (Fact C) (has C c) $
      join ! $ use0 𝓛 (Fact B) (has B b) $ join ! $ use0 𝓛 (Fact A) (has A a) $ join ! $ move ! (1 ∷ 0 ∷ []) $
      join ! $
      done !))))

-- the tokens of five lifetimes, and of six
module _ {M : Type 1} {𝓤 : Ura M} (𝓛 : Logic 𝓤) (A B C D E : Fml) where
  abbrev pub five : SProp 𝓤
  five = sep 𝓤 (sem 𝓛 A) (sep 𝓤 (sem 𝓛 B) (sep 𝓤 (sem 𝓛 C) (sep 𝓤 (sem 𝓛 D) (sep 𝓤 (sem 𝓛 E) (emp 𝓤)))))

  abbrev six : Fml → SProp 𝓤
  six F =
      sep 𝓤 (sem 𝓛 A)
      (sep 𝓤 (sem 𝓛 B) (sep 𝓤 (sem 𝓛 C) (sep 𝓤 (sem 𝓛 D) (sep 𝓤 (sem 𝓛 E) (sep 𝓤 (sem 𝓛 F) (emp 𝓤))))))

  pub apart_last : (F : Fml) → ent 𝓤 (six F) (sep 𝓤 five (sem 𝓛 F))
  apart_last F =
      qed 𝓛 (‵ A ∷ ‵ B ∷ ‵ C ∷ ‵ D ∷ ‵ E ∷ ‵ F ∷ ‵ ftrue ∷ []) ∵ move ! (4 ∷ 6 ∷ []) $ join ! $
      move ! (4 ∷ 0 ∷ []) $
      join ! $ move ! (3 ∷ 0 ∷ []) $ join ! $ move ! (2 ∷ 0 ∷ []) $ join ! $ move ! (1 ∷ 0 ∷ []) $ join ! $
      join ! $ done !

  pub joins_last : (F : Fml) → ent 𝓤 (sep 𝓤 five (sem 𝓛 F)) (six F)
  joins_last F =
      qed 𝓛 ((‵ A ⊛ ‵ B ⊛ ‵ C ⊛ ‵ D ⊛ ‵ E ⊛ ‵ ftrue) ∷ ‵ F ∷ []) ∵ split ! $ move ! (1 ∷ []) $ split ! $
      move ! (1 ∷ [])
      $ split ! $ move ! (1 ∷ []) $ split ! $ move ! (1 ∷ []) $ split ! $
      move ! (6 ∷ 1 ∷ []) $ join ! $ move !
      (1 ∷ 0 ∷ []) $ join ! $ move ! (1 ∷ 0 ∷ []) $ join ! $ move ! (1 ∷ 0 ∷ []) $ join ! $
      move ! (1 ∷ 0 ∷ []) $ join
      ! $ move ! (1 ∷ 0 ∷ []) $ join ! $ done !
