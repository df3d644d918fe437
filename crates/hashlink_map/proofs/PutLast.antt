-- What the inserts of raw entries state about the entry that they make and the pair that it lends.
use Rattle.hashlink_map.proofs.Names.{◌≡◌, [], ◌∷◌, None, Ura, Lft, ent, sep, emp, Logic, fact, fact_i, Laws}
use Rattle.hashlink_map.proofs.Names.{RattleType, heard, MutBor, IsEquivalence, IfOk, IfErr, OnErr}
use Rattle.hashlink_map.proofs.Names.{MatchOption, RawEntryState, AddsEntry, RefusesEntry, Keyed, state_of}
use Rattle.hashlink_map.proofs.Names.{entries_of, PutsLast, raw_occupied_map, raw_occupied_state, raw_pair}
use Rattle.hashlink_map.proofs.PairTies.{ok_carried, err_carried, on_err_carried, IsLent, IsHandedOn}
use Rattle.hashlink_map.proofs.{Names.{raw_place, StandsLast}, EnterAndLend.{Made_at, Lent_at, Entering}}
use Rattle.hashlink_map.proofs.{LastMoved.{put_written, put_parts}, PairTies.{new_written, new_parts}}
use Rattle.hashlink_map.specs.Bounds.{EqGhosts, HashGhosts, HasherGhosts, BuilderGhosts}
use Rattle.std.specs.Prelude.{length}
use types.Kit.{raw, ◌$◌, ◌∵◌, !, qed, by, done, drop, use0}

module _ {M : Type 1} (𝓤 : Ura M) (𝓛 : Logic 𝓤) (K V S T : RattleType) (LK : Laws K) (LV : Laws V)
    (LS : Laws S) (LT : Laws T) (p : EqGhosts K.Denot) (h : HashGhosts K.Denot)
    (b : BuilderGhosts S.Denot T.Denot) (w : HasherGhosts T.Denot) (κ : Lft)
    (laws : IsEquivalence p.eq) where
  abbrev X : Type 0
  X = (Made_at 𝓤 K V S T LK LV LS LT p h b w κ).Denot

  abbrev Y : Type 0
  Y = (Lent_at 𝓤 K V S T LK LV LS LT p h b w κ).Denot

  -- three facts that are apart, as one
  pub hears_three : (A B C : Type 0) → ent 𝓤 (sep 𝓤 (fact 𝓤 A) (sep 𝓤 (fact 𝓤 B) (fact 𝓤 C)))
      (fact 𝓤 (A × B × C))
  hears_three A B C =
      qed 𝓛 (raw (fact 𝓤 A) ∷ raw (fact 𝓤 B) ∷ raw (fact 𝓤 C) ∷ []) ∵ heard ! A (λ a. heard ! B (λ b.
      heard ! C (λ c. use0 𝓛 (raw (fact 𝓤 (A × B × C))) (fact_i 𝓤 (A × B × C) (emp 𝓤) (a, b, c)) $ done !)))

  pub tells_two : (A B : Type 0) → A → B → ent 𝓤 (emp 𝓤) (sep 𝓤 (fact 𝓤 A) (fact 𝓤 B))
  tells_two A B a b =
      qed 𝓛 [] ∵ use0 𝓛 (raw (fact 𝓤 B)) (fact_i 𝓤 B (emp 𝓤) b) $
      use0 𝓛 (raw (fact 𝓤 A)) (fact_i 𝓤 A (emp 𝓤) a) $ done !

  -- a new pair
  module _ (m : MutBor (Keyed K.Denot V.Denot S.Denot)) (k : K.Denot) (u : V.Denot) where
    abbrev Same : X → Type 0
    Same x = IfOk x (λ o. (raw_occupied_map o).ghost_name ≡ m.ghost_name)

    abbrev Adds : X → Type 0
    Adds x = IfOk x
        (λ o. AddsEntry p.eq (state_of m.now) (state_of (raw_occupied_map o).now) k u
        (length (entries_of m.now)))

    abbrev Stands : X → Type 0
    Stands x = IfOk x (λ o. raw_place o ≡ length (entries_of m.now))

    abbrev Back : X → Type 0
    Back x = IfErr x (λ e. e ≡ (k, u))

    pub hears_new : (x : X) → ent 𝓤
        (sep 𝓤 (fact 𝓤 (Same x)) (sep 𝓤 (fact 𝓤 (Adds x)) (sep 𝓤 (fact 𝓤 (Stands x)) (fact 𝓤 (Back x)))))
        (fact 𝓤 (Adds x × Stands x × Back x))
    hears_new x =
        qed 𝓛 (raw (fact 𝓤 (Same x)) ∷ raw (sep 𝓤 (fact 𝓤 (Adds x))
        (sep 𝓤 (fact 𝓤 (Stands x)) (fact 𝓤 (Back x)))) ∷ []) ∵ drop ! $
        by ! (hears_three (Adds x) (Stands x) (Back x))

    abbrev pub puts_new : Entering 𝓤 K V S T LK LV LS LT p h b w κ
    puts_new = record {
      map = m;
      Written = λ q v new. AddsEntry p.eq (state_of m.now) (state_of new) k v (length (entries_of m.now));
      Refused = λ e new. RefusesEntry p.eq (state_of m.now) (state_of new) k u e;
      Facts = λ x. Adds x × Stands x × Back x;
      Says = λ x. sep 𝓤 (fact 𝓤 (Same x))
          (sep 𝓤 (fact 𝓤 (Adds x)) (sep 𝓤 (fact 𝓤 (Stands x)) (fact 𝓤 (Back x))));
      Tells = λ r. sep 𝓤 (fact 𝓤 (IfOk r (λ q. (q.0.now ≡ k) × (q.1.now ≡ u))))
          (fact 𝓤 (IfErr r (λ e. e ≡ (k, u))));
      hears = hears_new;
      writes = λ x facts. new_written laws (state_of m.now) k u x facts.0 facts.1;
      tells = λ x r facts pair given. tells_two (IfOk r (λ q. (q.0.now ≡ k) × (q.1.now ≡ u)))
          (IfErr r (λ e. e ≡ (k, u)))
          (ok_carried x r (λ q. (q.0.now ≡ k) × (q.1.now ≡ u)) pair
          (new_parts laws (state_of m.now) k u x facts.0 facts.1))
          (err_carried x r (λ e. e ≡ (k, u)) given facts.2);
    }

  -- a pair that is given, or the one at the place: `Parts` holds for it
  module _ (m : MutBor (Keyed K.Denot V.Denot S.Denot)) (found : RawEntryState K.Denot V.Denot S.Denot)
      (IsGiven : K.Denot × V.Denot → Type 0) (Parts : Y → Type 0)
      (parts : (r : Y) → IfOk r (λ q. MatchOption (raw_pair found) (IsGiven (q.0.now, q.1.now))
      (λ stood. (q.0.now ≡ stood.0) × (q.1.now ≡ stood.1))) → Parts r) where
    abbrev Last : X → Type 0
    Last x = IfOk x (λ o. StandsLast p.eq found IsGiven (raw_occupied_state o))

    abbrev Given : X → Type 0
    Given x = IfErr x IsGiven

    abbrev Empty : X → Type 0
    Empty x = OnErr x (found.place ≡ None)

    pub tells_last : (x : X) (r : Y) → Last x × Given x × Empty x → IsLent x r → IsHandedOn x r
        → ent 𝓤 (emp 𝓤)
        (sep 𝓤 (fact 𝓤 (Parts r)) (sep 𝓤 (fact 𝓤 (IfErr r IsGiven)) (fact 𝓤 (OnErr r (found.place ≡ None)))))
    tells_last x r facts pair given =
        qed 𝓛 [] ∵
        use0 𝓛 (raw (sep 𝓤 (fact 𝓤 (IfErr r IsGiven)) (fact 𝓤 (OnErr r (found.place ≡ None)))))
        (tells_two (IfErr r IsGiven) (OnErr r (found.place ≡ None)) (err_carried x r IsGiven given facts.1)
        (on_err_carried x r (found.place ≡ None) given facts.2)) $
        use0 𝓛 (raw (fact 𝓤 (Parts r))) (fact_i 𝓤 (Parts r) (emp 𝓤) (parts r (ok_carried x r
        (λ q. MatchOption (raw_pair found) (IsGiven (q.0.now, q.1.now))
        (λ stood. (q.0.now ≡ stood.0) × (q.1.now ≡ stood.1))) pair
        (put_parts laws IsGiven found x facts.0)))) $ done !

    abbrev pub puts_last : Entering 𝓤 K V S T LK LV LS LT p h b w κ
    puts_last = record {
      map = m;
      Written = λ q v new. PutsLast p.eq found.map (state_of new) q.0.now v;
      Refused = λ e new. RefusesEntry p.eq found.map (state_of new) e.0 e.1 e;
      Facts = λ x. Last x × Given x × Empty x;
      Says = λ x. sep 𝓤 (fact 𝓤 (Last x)) (sep 𝓤 (fact 𝓤 (Given x)) (fact 𝓤 (Empty x)));
      Tells = λ r. sep 𝓤 (fact 𝓤 (Parts r))
          (sep 𝓤 (fact 𝓤 (IfErr r IsGiven)) (fact 𝓤 (OnErr r (found.place ≡ None))));
      hears = λ x. hears_three (Last x) (Given x) (Empty x);
      writes = λ x facts. put_written laws IsGiven found x facts.0;
      tells = tells_last;
    }
