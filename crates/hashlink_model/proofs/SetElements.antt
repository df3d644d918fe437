-- The elements of a set after the map's steps.
use Rattle.hashlink_model.proofs.Names
use Names.{◌≡◌, ℕ, Bool, true, false, not, cond, List, [], ◌∷◌, ◌++◌, length, filter, None, slice_get}
use Names.{is_some, Option, Some, Ok, Err, option_map, refl, unwrap_or, sym, ap, ap₂, ◌∙◌, subst, arith, zero}
use Names.{suc, IsEquivalence, AllZip, find, keys_of, lookup, lookup_key, lookup_entry, remove_entry}
use Names.{is_member, swap_key, length-keys_of, is_some-lookup, entries_eq, elements_eq, IsEntries, place_of}
use Names.{without, stored_key, extended, set_key_at, Inserts, RemovesKey, Moves, PopsFront, PopsBack}
use Names.{pairs_of, put_element, replaced, stored_element}
use Rattle.hashlink_model.proofs.Puts.{put_back, put_back_absent, put_front, put_at_its_place}
use Rattle.hashlink_model.proofs.{Names.keys-set_value, Finds.{lookup_is, lookup_key_is}, ByPlace.moved-there}
use Rattle.hashlink_model.specs.Sets.{SetState, elements_of, SetInserts, SetReplaces}
use Rattle.hashlink_model.proofs.Splits.{remove_entry-none, none_from_lookup, lookup_entry-none}
use Rattle.hashlink_model.proofs.{Puts.put_after_its_place, Afterwards.{put_back_twice, put_front_twice}}
use Rattle.hashlink_model.proofs.{Places.{place_of_its_key, slice_get-place_or_end}, Extends.extended-own}
use Rattle.hashlink_model.proofs.{Pops.{pops_front, pops_back}, Clones.clone_is_equal}
use Rattle.hashlink_model.proofs.SetSteps.{replaced-absent, replaced-there, length_pairs_of}
use Rattle.hashlink_model.proofs.SetViews.{keys_of-pairs_of, pairs_of-keys_of, keys_of-put}
use Rattle.std.{specs.List.IsDistinct, specs.Set.remove_key, proofs.lemmas.List.map-append}
use Rattle.std.proofs.lemmas.Option.{slice_get-map}

module _ {T V : Type 0} (test : T → Bool) where
  pub keys-remove_entry : (es : List (T × V)) → keys_of (remove_entry test es) ≡ remove_key test (keys_of es)
  keys-remove_entry [] = refl
  keys-remove_entry (e ∷ es) = grind (arith, keys-remove_entry es)

  pub find-keys : (es : List (T × V)) → lookup_key test es ≡ find test (keys_of es)
  find-keys [] = refl
  find-keys (e ∷ es) = ap (cond (test e.0) (Some e.0)) (find-keys es)

  pub keys-filter : (p : T → Bool) (es : List (T × V)) → keys_of (filter (λ e. p e.0) es)
      ≡ filter p (keys_of es)
  keys-filter p [] = refl
  keys-filter p (e ∷ es) = grind (arith, keys-filter p es)

  -- a key that is stored at the place of an equal one
  pub keys-set_key_at : (es : List (T × V)) (j : ℕ) (t : T) → place_of test es ≡ Some j
      → keys_of (set_key_at es j t) ≡ swap_key test (keys_of es) t
  keys-set_key_at [] j t p = refl
  keys-set_key_at (e ∷ es) zero t p = grind (arith, p)
  keys-set_key_at (e ∷ es) (suc j) t p = grind (arith, p, keys-set_key_at es j t)

module _ {T S : Type 0} (eq : T → T → Bool) (old new : SetState T S) (t : T) where
  member_is : (o : Option (Unit {0})) → lookup (eq t) old.entries ≡ o
      → is_member eq (elements_of old) t ≡ is_some o
  member_is o l = sym (is_some-lookup (eq t) old.entries) ∙ ap is_some l

  module _ (b : ℕ) where
    pub inserts_elements : (w : Option (Unit {0})) → Inserts eq old new t tt b (Ok w)
        → elements_of new ≡ put_element eq (elements_of old) t b
    inserts_elements None s = ap keys_of s.adds.entries ∙ keys_of-put eq old.entries t b
    inserts_elements (Some w) s = ap keys_of s.puts.entries ∙ keys_of-put eq old.entries t b

    pub inserts_member : (w : Option (Unit {0})) → Inserts eq old new t tt b (Ok w)
        → is_some w ≡ is_member eq (elements_of old) t
    inserts_member None s = sym (member_is None s.absent)
    inserts_member (Some w) s = sym (member_is (Some w) s.old_value)

    pub inserts_refused : (pair : T × Unit {0}) → Inserts eq old new t tt b (Err pair)
        → (elements_of new ≡ elements_of old) × (is_member eq (elements_of old) t ≡ false) × (pair.0 ≡ t)
    inserts_refused pair s =
        (ap keys_of s.grows.entries, member_is None s.may_refuse.absent, ap (λ p. p.0) s.handed_back)

    pub moves_elements : (r : Option (Unit {0})) → Moves eq old new t b r
        → (elements_of new ≡ cond (is_some r) (put_element eq (elements_of old) t b) (elements_of old))
        × (is_some r ≡ is_member eq (elements_of old) t)
    moves_elements None s = (ap elements_of s.step, sym (member_is None (sym s.answer)))
    moves_elements (Some w) s = (
      ap keys_of (s.step.entries ∙ moved-there eq old.entries t b w (sym s.answer))
          ∙ keys_of-put eq old.entries t b,
      sym (member_is (Some w) (sym s.answer)),
    )

  found_key : (r : Option (T × Unit {0})) → r ≡ lookup_entry (eq t) old.entries
      → option_map (λ e. e.0) r ≡ find (eq t) (elements_of old)
  found_key r a = grind (arith, a, lookup_key_is (eq t) old.entries, find-keys (eq t) old.entries)

  pub removes_elements : (r : Option (T × Unit {0})) → RemovesKey eq old new t r
      → (elements_of new ≡ remove_key (eq t) (elements_of old))
      × (option_map (λ e. e.0) r ≡ find (eq t) (elements_of old))
  removes_elements None s =
      let none = none_from_lookup (eq t) old.entries
      (lookup_is (eq t) old.entries ∙ ap (option_map (λ e. e.1)) (sym s.answer)) in (
        ap elements_of s.step ∙ ap keys_of (sym (remove_entry-none (eq t) old.entries none))
            ∙ keys-remove_entry (eq t) old.entries,
        found_key None s.answer,
      )
  removes_elements (Some e) s =
      (ap keys_of s.step.entries ∙ keys-remove_entry (eq t) old.entries, found_key (Some e) s.answer)

  -- ---- the set's own steps

  pub set_inserts : (b : Bool) → SetInserts eq old new t (Ok b)
      → (elements_of new ≡ put_element eq (elements_of old) t (length (elements_of old)))
      × (b ≡ not (is_member eq (elements_of old) t))
  set_inserts b s = (
    inserts_elements (length old.entries) (cond b None (Some tt)) s
        ∙ ap (put_element eq (elements_of old) t) (sym (length-keys_of old.entries)),
    grind (arith, inserts_member (length old.entries) (cond b None (Some tt)) s),
  )

  pub set_replaces : (o : Option T) → SetReplaces eq old new t (Ok o)
      → (elements_of new ≡ replaced eq (elements_of old) t) × (o ≡ find (eq t) (elements_of old))
  set_replaces None s =
      let none = none_from_lookup (eq t) old.entries s.absent in (
        ap keys_of (s.adds.entries ∙ put_back_absent eq old.entries t tt none)
            ∙ map-append (λ e. e.0) old.entries ((t, tt) ∷ [])
            ∙ sym (replaced-absent eq (elements_of old) t (member_is None s.absent)),
        found_key None (sym (lookup_entry-none (eq t) old.entries none)),
      )
  set_replaces (Some x) s =
      let there : slice_get old.entries s.place ≡ lookup_entry (eq t) old.entries
      = ap (λ o. slice_get old.entries (unwrap_or o (length old.entries))) (sym s.there)
      ∙ slice_get-place_or_end eq t old.entries in
      let found = found_key (slice_get old.entries s.place) there in
      let held = lookup_is (eq t) old.entries in
      let member : is_member eq (elements_of old) t ≡ true
      = grind (arith, there, s.swaps.answer, is_some-lookup (eq t) old.entries, held) in (
        ap keys_of s.swaps.step.entries ∙ keys-set_key_at (eq t) old.entries s.place t s.there
            ∙ sym (replaced-there eq (elements_of old) t member),
        sym s.swaps.answer ∙ found,
      )

module _ {T S : Type 0} (old new : SetState T S) (e : T × Unit {0}) where
  pub pops_front_elements : PopsFront old new (Some e) → elements_of old ≡ e.0 ∷ elements_of new
  pops_front_elements s = let p = pops_front old new e s in ap keys_of p.0

  pub pops_back_elements : PopsBack old new (Some e) → elements_of old ≡ elements_of new ++ e.0 ∷ []
  pops_back_elements s = let p = pops_back old new e s in ap keys_of p.0
      ∙ map-append (λ e. e.0) new.entries (e ∷ [])

-- ---- the place at which an element is put

module _ {T : Type 0} (eq : T → T → Bool) where
  pub removed_pairs : (ts : List T) (t : T) → keys_of (without eq (pairs_of ts) t) ≡ remove_key (eq t) ts
  removed_pairs ts t = keys-remove_entry (eq t) (pairs_of ts) ∙ ap (remove_key (eq t)) (keys_of-pairs_of ts)

  pub stored_pairs : (ts : List T) (t : T) → stored_key eq (pairs_of ts) t ≡ stored_element eq ts t
  stored_pairs ts t = ap (λ o. unwrap_or o t) (find-keys (eq t) (pairs_of ts) ∙ ap (find (eq t))
      (keys_of-pairs_of ts))

  pub put_element_back : (ts : List T) (t : T)
      → put_element eq ts t (length ts) ≡ remove_key (eq t) ts ++ stored_element eq ts t ∷ []
  put_element_back ts t =
      ap (put_element eq ts t) (sym (length_pairs_of eq ts)) ∙ ap keys_of (put_back eq (pairs_of ts) t tt)
      ∙ map-append (λ e. e.0) (without eq (pairs_of ts) t) ((stored_key eq (pairs_of ts) t, tt) ∷ [])
      ∙ ap₂ (λ xs x. xs ++ x ∷ []) (removed_pairs ts t) (stored_pairs ts t)

  module _ (laws : IsEquivalence eq) where
    pub entries_of_pairs : (ts : List T) → IsDistinct eq ts → IsEntries eq (pairs_of ts)
    entries_of_pairs ts d = subst (IsDistinct eq) (sym (keys_of-pairs_of ts)) d

    -- an element at j, and one that is put directly behind itself
    pub place_in_pairs : (ts : List T) (j : ℕ) (x t : T) → IsDistinct eq ts → slice_get ts j
        ≡ Some x → eq t x ≡ true → place_of (eq t) (pairs_of ts) ≡ Some j
    place_in_pairs ts j x t d at e =
        place_of_its_key eq laws (pairs_of ts) j (x, tt) t (entries_of_pairs ts d)
        (slice_get-map (λ u. (u, tt)) ts j ∙ ap (option_map (λ u. (u, tt))) at) e

    -- ---- many elements

    pub own_elements : (ts : List T) → IsDistinct eq ts → keys_of (extended eq [] (pairs_of ts)) ≡ ts
    own_elements ts d = ap keys_of (extended-own eq laws (pairs_of ts) (entries_of_pairs ts d))
        ∙ keys_of-pairs_of ts

    equal_elements : (xs ys : List T) → elements_eq eq xs ys
        ≡ entries_eq eq (λ _ _. true) (pairs_of xs) (pairs_of ys)
    equal_elements [] [] = refl
    equal_elements [] (y ∷ ys) = refl
    equal_elements (x ∷ xs) [] = refl
    equal_elements (x ∷ xs) (y ∷ ys) = grind (arith, equal_elements xs ys)

    cloned_pairs : (xs ys : List T) → AllZip (λ x y. eq x y ≡ true) xs ys
        → AllZip (λ (p q : T × Unit {0}). (eq p.0 q.0 ≡ true) × (true ≡ true)) (pairs_of xs) (pairs_of ys)
    cloned_pairs [] [] z = z
    cloned_pairs [] (y ∷ ys) z = absurd z
    cloned_pairs (x ∷ xs) [] z = absurd z
    cloned_pairs (x ∷ xs) (y ∷ ys) z = ((z.0, refl), cloned_pairs xs ys z.1)

    pub clone_of_a_set : (ts clones : List T) → IsDistinct eq ts → AllZip (λ x y. eq x y ≡ true) ts clones
        → elements_eq eq ts (keys_of (extended eq [] (pairs_of clones))) ≡ true
    clone_of_a_set ts clones d z =
        let es = extended eq [] (pairs_of clones) in
        equal_elements ts (keys_of es) ∙ ap (entries_eq eq (λ _ _. true) (pairs_of ts)) (pairs_of-keys_of es)
        ∙ clone_is_equal eq laws (λ _ _. true) (pairs_of ts) (pairs_of clones) (entries_of_pairs ts d)
        (cloned_pairs ts clones z)

pub ruleset inserts = (inserts_elements, inserts_member, inserts_refused)

pub ruleset steps = (inserts, removes_elements, moves_elements, pops_front_elements, pops_back_elements)

pub ruleset at_places = (place_in_pairs, put_at_its_place, put_after_its_place, keys-set_value)

pub ruleset pairs = (removed_pairs, stored_pairs, entries_of_pairs, length_pairs_of, length-keys_of)

pub ruleset views = (pairs_of-keys_of, keys_of-pairs_of)

pub ruleset at_ends = (pairs, views, put_element_back, put_front, put_back_twice, put_front_twice)

pub ruleset made = (own_elements, clone_of_a_set, set_inserts, set_replaces)

pub ruleset elements = (made, steps, at_places, at_ends)
