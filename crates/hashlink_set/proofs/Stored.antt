-- Which element is the last one after an insert or a move.
use Rattle.hashlink_set.proofs.Names
use Names.{◌≡◌, ℕ, Result, Bool, true, false, List, [], ◌∷◌, length, Option, None, Some, Ok, Err, is_some}
use Names.{refl, sym, ap, subst, ◌∙◌, arith, IfOk, IfErr, IsEquivalence, find, keys_of, is_member, remove_key}
use Names.{is_some-lookup, SetState, elements_of, put_element, stored_element, SetInserts, SetReplaces, Moves}
use Names.{last_of, set_inserts, set_replaces, GetsOrMakes}
use Rattle.std.specs.Map.{lookup}
use Rattle.std.{proofs.Common.unwrap_or, specs.List.IsDistinct, proofs.lemmas.Map.Entries.length-keys_of}
use Rattle.hashlink_map.proofs.Found.{is-found}
use Rattle.hashlink_model.{specs.MapState.{AddsEntry, MovesAt, RefusesEntry}, specs.Entries.place_of}
use Rattle.hashlink_model.proofs.{SetSteps.IsDistinct-replaced, Pops.{absent_is_vacant, vacant}}
use Rattle.hashlink_model.proofs.{Places.last_of-end, SetElements.{moves_elements, put_element_back}}

pub is_some-find : {T : Type 0} (eq : T → T → Bool) (t : T) (ts : List T) → is_some (find (eq t) ts)
    ≡ is_member eq ts t
is_some-find eq t [] = refl
is_some-find eq t (x ∷ ts) = grind (arith, is_some-find eq t ts)

last_put : {T : Type 0} (eq : T → T → Bool) (ts : List T) (t : T)
    → last_of (put_element eq ts t (length ts)) ≡ Some (stored_element eq ts t)
last_put eq ts t = ap last_of (put_element_back eq ts t) ∙ last_of-end (remove_key (eq t) ts)
    (stored_element eq ts t)

module _ {T S : Type 0} (eq : T → T → Bool) where
  module _ (old new : SetState T S) (t : T) where
    pub inserted_last : (b : Bool) → SetInserts eq old new t (Ok b)
        → last_of (elements_of new) ≡ Some (stored_element eq (elements_of old) t)
    inserted_last b s = ap last_of (set_inserts eq old new t b s).0 ∙ last_put eq (elements_of old) t

    pub added_last : AddsEntry eq old new t tt (length old.entries) → last_of (elements_of new) ≡ Some t
    added_last s =
        let absent : is_some (find (eq t) (elements_of old)) ≡ false
        = is_some-find eq t (elements_of old) ∙ sym (is_some-lookup (eq t) old.entries)
        ∙ ap is_some s.absent in
        inserted_last true s ∙ grind (arith, absent)

    -- what is lent if an equal element was present
    pub moved_gets : (Makes : T → Type 0) → Moves eq old new t (length old.entries) (Some tt)
        → (x : T) × (last_of (elements_of new) ≡ Some x) × GetsOrMakes eq Makes old new t (Ok x)
    moved_gets Makes s =
        let e = moves_elements eq old new t (length old.entries) (Some tt) s in
        let n = length-keys_of old.entries in
        let last : last_of (elements_of new) ≡ Some (stored_element eq (elements_of old) t)
        = ap last_of e.0 ∙ ap (λ i. last_of (put_element eq (elements_of old) t i)) (sym n)
        ∙ last_put eq (elements_of old) t in
        by (find (eq t) (elements_of old)) refl (is_some-find eq t (elements_of old) ∙ sym e.1) last
      where
        by : (o : Option T) → find (eq t) (elements_of old) ≡ o → is_some o ≡ true
            → last_of (elements_of new) ≡ Some (unwrap_or o t)
            → (x : T) × (last_of (elements_of new) ≡ Some x) × GetsOrMakes eq Makes old new t (Ok x)
        by None h some last = absurd (cc)
        by (Some x) h some last = (x, last, rw h (refl, s))

  module _ (old new : SetState T S) (t x : T) (Makes : T → Type 0)
      (none : find (eq t) (elements_of old) ≡ None) (made : Makes x) where
    pub made_gets : AddsEntry eq old new x tt (length old.entries)
        → (y : T) × (last_of (elements_of new) ≡ Some y) × GetsOrMakes eq Makes old new t (Ok y)
    made_gets s = (x, added_last old new x s, rw none (made, s))

    pub made_refused : (y : T) → RefusesEntry eq old new x tt (y, tt) → GetsOrMakes eq Makes old new t (Err y)
    made_refused y s =
        let same : y ≡ x = ap (λ p. p.0) s.handed_back in
        subst (λ z. GetsOrMakes eq Makes old new t (Err z)) (sym same)
        (none, made, subst (λ z. RefusesEntry eq old new x tt (z, tt)) same s)

-- by the place of an element
module _ {T S : Type 0} (eq : T → T → Bool) (laws : IsEquivalence eq) (old : SetState T S) (t : T) where
  pub none_found : place_of (eq t) old.entries ≡ None → find (eq t) (elements_of old) ≡ None
  none_found p =
      let none : is_some (find (eq t) (elements_of old)) ≡ false
      = is_some-find eq t (elements_of old) ∙ sym (is_some-lookup (eq t) old.entries)
      ∙ ap is_some (vacant eq laws t old.entries p) in
      grind (arith, none)

  pub no_place : is_member eq (elements_of old) t ≡ false → place_of (eq t) old.entries ≡ None
  no_place m =
      let none : is_some (lookup (eq t) old.entries) ≡ false = is_some-lookup (eq t) old.entries ∙ m in
      absent_is_vacant eq laws t old.entries (grind (arith, none))

  pub moved_there : (new : SetState T S) (j : ℕ) → place_of (eq t) old.entries ≡ Some j
      → MovesAt old new j (length old.entries) → Moves eq old new t (length old.entries) (Some tt)
  moved_there new j p s =
      record { answer = found (lookup (eq t) old.entries) (is-found (eq t) old.entries j p); step = rw p s }
    where
      found : (o : Option (Unit {0})) → true ≡ is_some o → Some tt ≡ o
      found None e = absurd (cc)
      found (Some u) e = refl

-- no two elements are equal after a replace, as before
module _ {T S : Type 0} {eq : T → T → Bool} (laws : IsEquivalence eq) (old new : SetState T S) (t : T) where
  pub replaces_distinct : (r : Result (Option T) (T × Unit {0}))
      → IfOk r (λ o. SetReplaces eq old new t (Ok o))
      → IfErr r (RefusesEntry eq old new t tt) → IsDistinct eq (elements_of old)
      → IsDistinct eq (elements_of new)
  replaces_distinct (Ok o) s f d =
      subst (IsDistinct eq) (sym (set_replaces eq old new t o s).0)
      (IsDistinct-replaced eq laws (elements_of old) t d)
  replaces_distinct (Err p) s f d = subst (λ es. IsDistinct eq (keys_of es)) (sym f.grows.entries) d
