-- A step that takes an entry out of a map, as a step of an iterator.
use Rattle.hashlink_map.proofs.Names
use Names.{◌≡◌, ℕ, zero, suc, ◌+◌, ◌-◌, Bool, List, [], ◌∷◌, ◌++◌, length, refl, arith, slice_get, remove}
use Names.{take, Keyed, Node, IsPlaceAt, IsKeyed, IsEntries, entries_of, state_of, place_number, last_of}
use Names.{IsEquivalence, Option, None, Some, ap, sym, subst, ◌∙◌, TakesFirst, TakesLast, length-append}
use Rattle.hashlink_map.proofs.Names.{GivesInOrder, GivesInReverse, as_is, as_is_back, in-order, in-reverse}
use Rattle.hashlink_map.proofs.Names.{MapState, PopsFront, PopsBack, after_first_of, before_last_of}
use Rattle.hashlink_model.{specs.{Steps.KeepsOnly, MapState.Removes}, proofs.Walks.{takes_first, takes_last}}
use Rattle.hashlink_model.{specs.Lookups.UpdatesPopped, proofs.Updates.{updates-pop_front, updates-pop_back}}
use Rattle.hashlink_core.specs.Steps.{RemovesNode}
use Rattle.hashlink_model.proofs.Places.{last_of-end}
use Rattle.std.proofs.{Common.{drop, le_refl}, Math.Seq.take-append_seam, lemmas.Option.slice_get_past}
use Rattle.std.proofs.lemmas.Option.{slice_get_within}

module _ {K V S : Type 0} (old new : MapState K V S) where
  pub pop-takes_first : (r : Option (K × V)) → PopsFront old new r
      → TakesFirst (λ p. p) old.entries r new.entries
  pop-takes_first None p =
      let t = subst (λ o. TakesFirst (λ e. e) old.entries o (after_first_of old.entries)) (sym p.answer)
      (takes_first old.entries) in
      (t.0, ap (λ m. m.entries) p.step ∙ t.0)
  pop-takes_first (Some e) p =
      subst (TakesFirst (λ x. x) old.entries (Some e)) (sym p.step.entries)
      (subst (λ o. TakesFirst (λ x. x) old.entries o (after_first_of old.entries)) (sym p.answer)
      (takes_first old.entries))

  pub pop-takes_last : (r : Option (K × V)) → PopsBack old new r
      → TakesLast (λ p. p) old.entries r new.entries
  pop-takes_last None p =
      let t = subst (λ o. TakesLast (λ e. e) old.entries o (before_last_of old.entries)) (sym p.answer)
      (takes_last old.entries) in
      (t.0, ap (λ m. m.entries) p.step ∙ t.0)
  pop-takes_last (Some e) p =
      subst (TakesLast (λ x. x) old.entries (Some e)) (sym p.step.entries)
      (subst (λ o. TakesLast (λ x. x) old.entries o (before_last_of old.entries)) (sym p.answer)
      (takes_last old.entries))

-- ---- a pop: the node at an end was removed, or there is none

module _ {X : Type 0} where
  remove-first : (xs : List X) → remove xs 0 ≡ drop 1 xs
  remove-first [] = refl
  remove-first (x ∷ xs) = refl

  remove-last : (xs : List X) (i : ℕ) → suc i ≡ length xs → remove xs i ≡ take i xs
  remove-last [] i n = absurd (omega (arith, n))
  remove-last (x ∷ []) zero n = refl
  remove-last (x ∷ y ∷ xs) zero n = absurd (omega (arith, n))
  remove-last (x ∷ xs) (suc i) n = ap (λ l. x ∷ l) (remove-last xs i (omega (arith, n)))

module _ {K V S : Type 0} (before after : Keyed K V S) where
  module _ (n : Node) (e : K × V)
      (pair : slice_get (entries_of before) (place_number before.nodes (Some n)) ≡ Some e)
      (removed : RemovesNode before after (place_number before.nodes (Some n))) where
    pub pops-first : IsPlaceAt before.nodes (Some n) 0 → PopsFront (state_of before) (state_of after) (Some e)
    pops-first at = record {
      answer = sym pair ∙ ap (slice_get (entries_of before)) at.number;
      step = subst (Removes (state_of before) (state_of after))
          (ap (remove (entries_of before)) at.number ∙ remove-first (entries_of before)) removed.state;
    }

    pub pops-last : IsPlaceAt before.nodes (Some n) (length (entries_of before) - 1)
        → PopsBack (state_of before) (state_of after) (Some e)
    pops-last at =
        let es = entries_of before in
        let some = slice_get_within es (place_number before.nodes (Some n)) e pair in
        record {
          answer = sym pair ∙ ap (slice_get es) at.number;
          step = subst (Removes (state_of before) (state_of after))
              (ap (remove es) at.number ∙ remove-last es (length es - 1) (omega (arith, at.number, some)))
              removed.state;
        }

  -- there is no entry
  module _ (none : entries_of before ≡ []) where
    past : (i : ℕ) → None ≡ slice_get (entries_of before) i
    past i = sym (slice_get_past (entries_of before) i (omega (arith, ap length none)))

    pub pops-none : PopsFront (state_of before) (state_of before) None
        × PopsBack (state_of before) (state_of before) None
    pops-none = (
      record { answer = past 0; step = refl },
      record { answer = past (length (entries_of before) - 1); step = refl },
    )

  -- the clauses
  module _ {eq : K → K → Bool} (laws : IsEquivalence eq) (was_sound : IsKeyed eq before)
      (sound : IsKeyed eq after) (r : Option (K × V)) where
    pub popped_front : PopsFront (state_of before) (state_of after) r
        → record {
          pops : PopsFront (state_of before) (state_of after) r;
          entries : TakesFirst (λ e. e) (entries_of before) r (entries_of after);
          updates : UpdatesPopped eq (entries_of before) (entries_of after) r;
          distinct : IsEntries eq (entries_of after);
        }
    popped_front pops =
        let takes = pop-takes_first _ _ r pops in
        record {
          pops = pops;
          entries = takes;
          updates = updates-pop_front eq laws r _ _ was_sound.distinct takes;
          distinct = sound.distinct;
        }

    pub popped_back : PopsBack (state_of before) (state_of after) r
        → record {
          pops : PopsBack (state_of before) (state_of after) r;
          entries : TakesLast (λ e. e) (entries_of before) r (entries_of after);
          updates : UpdatesPopped eq (entries_of before) (entries_of after) r;
          distinct : IsEntries eq (entries_of after);
        }
    popped_back pops =
        let takes = pop-takes_last _ _ r pops in
        record {
          pops = pops;
          entries = takes;
          updates = updates-pop_back eq laws r _ _ was_sound.distinct takes;
          distinct = sound.distinct;
        }

-- what the steps of a drain leave
module _ {K V S : Type 0} where
  -- only entries that were present at the start are left
  abbrev pub Kept : MapState K V S → MapState K V S → Type 0
  Kept start now = KeepsOnly start now now.entries

  pub kept-none : (m : MapState K V S) → Kept m m
  kept-none m =
      record {
        entries = refl;
        no_more = le_refl (length m.entries);
        spare = refl;
        room = refl;
        link_writes = record { grows = le_refl m.link_writes; bound = omega arith };
        hasher = refl;
      }

-- a drain took the last entry
pub last-taken : {X : Type 0} {xs ys : List X} {y : X} → xs ≡ ys ++ y ∷ []
    → (Some y ≡ last_of xs) × (before_last_of xs ≡ ys) × (length xs ≡ length ys + 1)
last-taken {X} {xs} {ys} {y} is =
    let long : length xs ≡ length ys + 1 = ap length is ∙ length-append ys (y ∷ []) in
    let less : length xs - 1 ≡ length ys = omega (arith, long) in (
      sym (ap last_of is ∙ last_of-end ys y),
      ap (λ n. take n xs) less ∙ ap (take (length ys)) is ∙ take-append_seam ys (y ∷ []),
      long,
    )

-- each run of an iterator that owns its items returns the entries left: in order from the front, in reverse
-- from the back
module _ {X : Type 0} where
  pub gives-in_order : GivesInOrder X
  gives-in_order p s = as_is p p.from (in-order (λ x. x) p s)

  pub gives-in_reverse : GivesInReverse X
  gives-in_reverse p s = as_is_back p p.from (in-reverse (λ x. x) p s)
