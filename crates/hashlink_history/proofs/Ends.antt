-- A smaller cache's entries stay an end of a larger one's, whatever calls both get.
use Rattle.std.proofs.Common.{◌≡◌, ℕ, zero, suc, ◌+◌, ◌-◌, ◌≤◌, ◌<◌, Bool, true, List, [], ◌∷◌, ◌++◌, length}
use Rattle.std.proofs.Common.{drop, is_some, Option, None, Some, refl, sym, ap, ◌∙◌, inl, inr, subst, subst₂}
use Rattle.std.{proofs.Common.{arith, append_assoc, lt_irrefl}, specs.Cmp.IsEquivalence, specs.List.AllZip}
use Rattle.std.{specs.Option.option_map_or, specs.Map.{lookup, remove_entry}, proofs.lemmas.Option.none-some}
use Rattle.std.proofs.lemmas.{Bool.{cases_lt, both_ways}, Map.NonePasses}
use Rattle.hashlink_model.{specs.Entries.{IsEntries, put, without, stored_key}, proofs.Finds.stored_key-equal}
use Rattle.hashlink_model.{specs.Cache.{last_entries, cache_put, cache_get, cache_use}, proofs.Puts.put_back}
use Rattle.hashlink_model.proofs.Distinct.{answers_alike, each-right, none_equal, none_others}
use Rattle.hashlink_model.proofs.Splits.{Stands, splits, remove_entry-none, lookup-none, lookup-here}
use Rattle.hashlink_model.proofs.{Afterwards.moved-there, Caches.{last_entries-within, cache_put-at_most}}
use Rattle.hashlink_history.specs.Inclusion.{IsEndOf, SameKey, SameEntry}
use Rattle.hashlink_history.proofs.Recency.{zip_push, zip_length}

module _ {K V : Type 0} (test : K → Bool) where
  remove-left_none : (xs ys : List (K × V)) → NonePasses test xs
      → remove_entry test (xs ++ ys) ≡ xs ++ remove_entry test ys
  remove-left_none [] ys n = refl
  remove-left_none (x ∷ xs) ys n = rw n.0 (ap (λ r. x ∷ r) (remove-left_none xs ys n.1))

  remove-right_none : (xs ys : List (K × V)) → NonePasses test ys
      → remove_entry test (xs ++ ys) ≡ remove_entry test xs ++ ys
  remove-right_none [] ys n = remove_entry-none test ys n
  remove-right_none (x ∷ xs) ys n = grind (arith, remove-right_none xs ys n)

  lookup-right : (xs ys : List (K × V)) → NonePasses test xs → lookup test (xs ++ ys) ≡ lookup test ys
  lookup-right [] ys n = refl
  lookup-right (x ∷ xs) ys n = rw n.0 (lookup-right xs ys n.1)

module _ {K V : Type 0} (eq : K → K → Bool) (laws : IsEquivalence eq) (R : K × V → K × V → Type 0)
    (equal : (p q : K × V) → R p q → eq p.0 q.0 ≡ true) where
  -- ---- the same key in both

  none_alike : (k : K) (xs ys : List (K × V)) → AllZip R xs ys → NonePasses (eq k) ys → NonePasses (eq k) xs
  none_alike k [] ys z n = tt
  none_alike k (x ∷ xs) [] z n = absurd z
  none_alike k (x ∷ xs) (y ∷ ys) z n =
      (answers_alike eq laws k x.0 y.0 (equal x y z.0) ∙ n.0, none_alike k xs ys z.1 n.1)

  remove_alike : (k : K) (xs ys : List (K × V)) → AllZip R xs ys
      → AllZip R (without eq xs k) (without eq ys k)
  remove_alike k [] [] z = z
  remove_alike k [] (y ∷ ys) z = absurd z
  remove_alike k (x ∷ xs) [] z = absurd z
  remove_alike k (x ∷ xs) (y ∷ ys) z =
      grind (arith, answers_alike eq laws k x.0 y.0 (equal x y z.0), z, remove_alike k xs ys z.1)

  -- ---- one step of either

  -- a key in the front part is not in the part behind it
  none_behind : (k : K) (small large : List (K × V)) (e : IsEndOf R small large) → IsEntries eq large
      → Stands (eq k) e.front → NonePasses (eq k) e.back
  none_behind k small large e d s =
      let whole : large ≡ s.0 ++ s.1 ∷ (s.2 ++ e.back)
      = e.is ∙ ap (λ zs. zs ++ e.back) s.3.is ∙ append_assoc s.0 (s.1 ∷ s.2) e.back in
      let others = none_equal eq laws s.1.0 k (s.0 ++ (s.2 ++ e.back)) (laws.symm s.1.0 k ∙ s.3.passes)
      (none_others eq laws s.0 s.1 (s.2 ++ e.back) (subst (IsEntries eq) whole d)) in
      each-right _ s.2 e.back (each-right _ s.0 (s.2 ++ e.back) others)

  pub end-without : (k : K) (small large : List (K × V)) → IsEntries eq large → IsEndOf R small large
      → IsEndOf R (without eq small k) (without eq large k)
  end-without k small large d e = elim (splits (eq k) e.front) [
    | inl n ↦ record {
      front = e.front;
      back = without eq e.back k;
      is = ap (λ zs. without eq zs k) e.is ∙ remove-left_none (eq k) e.front e.back n;
      alike = remove_alike k small e.back e.alike;
    }
    | inr s ↦ (
        let none = none_behind k small large e d s in
        let same = remove_entry-none (eq k) small (none_alike k small e.back e.alike none) in
        record {
          front = without eq e.front k;
          back = e.back;
          is = ap (λ zs. without eq zs k) e.is ∙ remove-right_none (eq k) e.front e.back none;
          alike = subst (λ zs. AllZip R zs e.back) (sym same) e.alike;
        })
  ]

  pub end-put : (k : K) (v w : V) (small large : List (K × V)) → IsEntries eq large
      → R (stored_key eq small k, v) (stored_key eq large k, w) → IsEndOf R small large
      → IsEndOf R (put eq small k v (length small)) (put eq large k w (length large))
  end-put k v w small large d r e =
      let f = end-without k small large d e in
      let p : K × V = (stored_key eq small k, v) in
      let q : K × V = (stored_key eq large k, w) in
      subst₂ (IsEndOf R) (sym (put_back eq small k v)) (sym (put_back eq large k w)) (record {
        front = f.front;
        back = f.back ++ q ∷ [];
        is = ap (λ zs. zs ++ q ∷ []) f.is ∙ append_assoc f.front f.back (q ∷ []);
        alike = zip_push R (without eq small k) f.back p q f.alike r;
      })

  stored_equal : (k : K) (small large : List (K × V)) → eq (stored_key eq small k) (stored_key eq large k)
      ≡ true
  stored_equal k small large =
      sym (laws.congr k (stored_key eq small k) (stored_key eq large k) (stored_key-equal eq laws k small))
      ∙ stored_key-equal eq laws k large

  -- ---- entries that are dropped from the front

  drop_small_by : (small large front back : List (K × V)) → large ≡ front ++ back → AllZip R small back
      → IsEndOf R (drop 1 small) large
  drop_small_by [] large front back i z = record { front = front; back = back; is = i; alike = z }
  drop_small_by (x ∷ small) large front [] i z = absurd z
  drop_small_by (x ∷ small) large front (y ∷ back) i z =
      record {
        front = front ++ y ∷ [];
        back = back;
        is = i ∙ sym (append_assoc front (y ∷ []) back);
        alike = z.1;
      }

  end-drop_small : (n : ℕ) (small large : List (K × V)) → IsEndOf R small large
      → IsEndOf R (drop n small) large
  end-drop_small zero small large e = e
  end-drop_small (suc n) [] large e = e
  end-drop_small (suc n) (x ∷ small) large e =
      end-drop_small n small large (drop_small_by (x ∷ small) large e.front e.back e.is e.alike)

  drop_large_by : (small large front back : List (K × V)) → large ≡ front ++ back → AllZip R small back
      → length small < length large → IsEndOf R small (drop 1 large)
  drop_large_by small large [] back i z l =
      absurd (lt_irrefl (length large) (omega (arith, ap length i, zip_length R small back z)))
  drop_large_by small large (f ∷ front) back i z l =
      record { front = front; back = back; is = ap (drop 1) i; alike = z }

  end-drop_large : (n : ℕ) (small large : List (K × V)) → IsEndOf R small large
      → n + length small ≤ length large → IsEndOf R small (drop n large)
  end-drop_large zero small large e l = e
  end-drop_large (suc n) small [] e l = e
  end-drop_large (suc n) small (y ∷ large) e l =
      end-drop_large n small large (drop_large_by small (y ∷ large) e.front e.back e.is e.alike (omega arith))
      (omega arith)

  end-last_large : (small large : List (K × V)) (d : ℕ) → IsEndOf R small large → length small ≤ d
      → IsEndOf R small (last_entries large d)
  end-last_large small large d e l = elim (cases_lt d (length large)) [
    | inl m ↦ end-drop_large (length large - d) small large e (omega arith)
    | inr m ↦ subst (IsEndOf R small) (sym (last_entries-within large d m)) e
  ]

  -- ---- the calls

  pub end-cache_put : ((p q : K) (v : V) → eq p q ≡ true → R (p, v) (q, v))
      → (c d : ℕ) (k : K) (v : V) (small large : List (K × V)) → IsEntries eq large → c ≤ d
      → length small ≤ c → IsEndOf R small large
      → IsEndOf R (cache_put eq small c k v) (cache_put eq large d k v)
  end-cache_put again c d k v small large u l m e =
      let r = again (stored_key eq small k) (stored_key eq large k) v (stored_equal k small large) in
      let few = cache_put-at_most eq small c k v in
      let zs = put eq small k v (length small) in
      let dropped = end-drop_small (length zs - c) zs (put eq large k v (length large)) in
      end-last_large (cache_put eq small c k v) (put eq large k v (length large)) d
      (dropped (end-put k v v small large u r e)) (omega arith)

  -- if the smaller cache has a key, so has the larger one
  pub end-finds : (k : K) (small large : List (K × V)) → IsEndOf R small large
      → is_some (lookup (eq k) small) ≡ true → is_some (lookup (eq k) large) ≡ true
  end-finds k small large e s = elim (splits (eq k) large) [
    | inl n ↦ (
        let none = each-right _ e.front e.back (subst (NonePasses (eq k)) e.is n) in
        absurd (both_ways (is_some (lookup (eq k) small))
        (ap is_some (lookup-none (eq k) small (none_alike k small e.back e.alike none))) s))
    | inr t ↦ ap (λ zs. is_some (lookup (eq k) zs)) t.3.is
        ∙ ap is_some (lookup-here (eq k) t.1 t.2 t.3.passes t.0 t.3.before)
  ]

module _ {K V : Type 0} (eq : K → K → Bool) (laws : IsEquivalence eq) where
  -- ---- by keys only

  module _ (c d : ℕ) (k : K) (v : V) (small large : List (K × V)) (u : IsEntries eq large) (fewer : c ≤ d)
      (within : length small ≤ c) (e : IsEndOf (SameKey eq) small large) where
    put_alike : (x y : V)
        → IsEndOf (SameKey eq) (put eq small k x (length small)) (put eq large k y (length large))
    put_alike x y =
        end-put eq laws (SameKey eq) (λ p q r. r) k x y small large u
        (stored_equal eq laws (SameKey eq) (λ p q r. r) k small large) e

    use_by : (o q : Option V) → lookup (eq k) small ≡ o → lookup (eq k) large ≡ q
        → IsEndOf (SameKey eq) (option_map_or (λ w. cache_get eq small k) o (cache_put eq small c k v))
        (option_map_or (λ w. cache_get eq large k) q (cache_put eq large d k v))
    use_by None None l m =
        end-cache_put eq laws (SameKey eq) (λ p q r. r) (λ p q w t. t) c d k v small large u fewer within e
    use_by None (Some y) l m =
        subst (IsEndOf (SameKey eq) (cache_put eq small c k v))
        (sym (moved-there eq large k (length large) y m))
        (end-drop_small eq laws (SameKey eq) (λ p q r. r) (length (put eq small k v (length small)) - c)
        (put eq small k v (length small)) (put eq large k y (length large)) (put_alike v y))
    use_by (Some x) None l m =
        absurd (both_ways (is_some (lookup (eq k) large)) (ap is_some m)
        (end-finds eq laws (SameKey eq) (λ p q r. r) k small large e (ap is_some l)))
    use_by (Some x) (Some y) l m =
        subst₂ (IsEndOf (SameKey eq)) (sym (moved-there eq small k (length small) x l))
        (sym (moved-there eq large k (length large) y m)) (put_alike x y)

    pub end-cache_use : IsEndOf (SameKey eq) (cache_use eq small c k v) (cache_use eq large d k v)
    end-cache_use = use_by (lookup (eq k) small) (lookup (eq k) large) refl refl

  -- ---- by keys and values

  same_values : (k : K) (xs ys : List (K × V)) → AllZip (SameEntry eq) xs ys → lookup (eq k) xs
      ≡ lookup (eq k) ys
  same_values k [] [] z = refl
  same_values k [] (y ∷ ys) z = absurd z
  same_values k (x ∷ xs) [] z = absurd z
  same_values k (x ∷ xs) (y ∷ ys) z =
      grind (arith, same_values k xs ys z.1, answers_alike eq laws k x.0 y.0 z.0.0, z.0.1)

  pub same_end-answers : (k : K) (w : V) (small large : List (K × V)) → IsEntries eq large
      → IsEndOf (SameEntry eq) small large → lookup (eq k) small ≡ Some w → lookup (eq k) large ≡ Some w
  same_end-answers k w small large u e l =
      let held : lookup (eq k) e.back ≡ Some w = sym (same_values k small e.back e.alike) ∙ l in
      let behind = none_behind eq laws (SameEntry eq) (λ p q r. r.0) k small large e u in
      let none : NonePasses (eq k) e.front = elim (splits (eq k) e.front)
      [ inl n ↦ n | inr s ↦ absurd (none-some w (sym (lookup-none (eq k) e.back (behind s)) ∙ held)) ] in
      ap (lookup (eq k)) e.is ∙ lookup-right (eq k) e.front e.back none ∙ held

pub ruleset same_end = (end-cache_use, same_end-answers)
