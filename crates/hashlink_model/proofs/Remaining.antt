-- What a lookup finds if only an end of the entries is left.
use Rattle.hashlink_model.proofs.Names.{◌≡◌, ◌≤◌, Bool, true, false, List, [], ◌∷◌, ◌++◌, length, drop, Some}
use Rattle.hashlink_model.proofs.Names.{sym, ap, ◌∙◌, subst, arith, append_assoc, None, IsEquivalence, lookup}
use Rattle.hashlink_model.proofs.Names.{lookup_entry, length-append, IsEntries, put, without, stored_key}
use Rattle.hashlink_model.proofs.{Splits.{lookup_entry-none, lookup-here}, Afterwards.lookup_entry-put_other}
use Rattle.hashlink_model.proofs.Distinct.{each-right, none_equal, IsEntries-head, IsEntries-tail}
use Rattle.hashlink_model.proofs.{Finds.stored_key-equal, Puts.{put_back, IsEntries-put}, Places.none_before}

-- an end that is not empty has the last element
pub last_stays : {X : Type 0} (xs : List X) (x : X) (front back : List X) → xs ++ x ∷ [] ≡ front ++ back
    → 1 ≤ length back → (zs : List X) × (back ≡ zs ++ x ∷ [])
last_stays xs x [] back i l = (xs, sym i)
last_stays [] x (f ∷ front) back i l = let n = ap length i in let m =
    length-append front back in absurd (omega arith)
last_stays (y ∷ xs) x (f ∷ front) back i l = last_stays xs x front back (ap (drop 1) i) l

module _ {K V : Type 0} (eq : K → K → Bool) (laws : IsEquivalence eq) where
  -- a lookup that finds an entry in an end finds it in the whole list
  pub found_in_end : (q : K) (e : K × V) (front back : List (K × V)) → IsEntries eq (front ++ back)
      → lookup_entry (eq q) back ≡ Some e → lookup_entry (eq q) (front ++ back) ≡ Some e
  found_in_end q e [] back d l = l
  found_in_end q e (x ∷ front) back d l =
      let gone : eq q x.0 ≡ true → lookup_entry (eq q) (front ++ back) ≡ None
      = λ t. lookup_entry-none (eq q) (front ++ back) (none_equal eq laws x.0 q (front ++ back)
      (laws.symm x.0 q ∙ t) (IsEntries-head eq x (front ++ back) d)) in
      grind (arith, gone, found_in_end q e front back (IsEntries-tail eq x (front ++ back) d) l)

  -- ---- after a key was put last

  module _ (q : K) (es : List (K × V)) (k : K) (v : V) (front back : List (K × V)) (d : IsEntries eq es)
      (is : put eq es k v (length es) ≡ front ++ back) where
    pub lookup-put_remaining : 1 ≤ length back → eq k q ≡ true → lookup (eq q) back ≡ Some v
    lookup-put_remaining l t =
        let k0 = stored_key eq es k in
        let s = last_stays (without eq es k) (k0, v) front back (sym (put_back eq es k v) ∙ is) l in
        let whole : put eq es k v (length es) ≡ (front ++ s.0) ++ (k0, v) ∷ []
        = is ∙ ap (λ zs. front ++ zs) s.1 ∙ sym (append_assoc front s.0 ((k0, v) ∷ [])) in
        let same : eq q k0 ≡ true = sym (laws.congr k q k0 t) ∙ stored_key-equal eq laws k es in
        let none = none_before eq laws (front ++ s.0) (k0, v) [] q
        (subst (IsEntries eq) whole (IsEntries-put eq laws es k v (length es) d)) same in
        ap (lookup (eq q)) s.1 ∙ lookup-here (eq q) (k0, v) [] same s.0 (each-right _ front s.0 none)

    pub lookup_entry-put_remaining : (e : K × V) → eq k q ≡ false → lookup_entry (eq q) back ≡ Some e
        → lookup_entry (eq q) es ≡ Some e
    lookup_entry-put_remaining e t l =
        sym (lookup_entry-put_other eq laws q es k v (length es) d t) ∙ ap (lookup_entry (eq q)) is
        ∙ found_in_end q e front back (subst (IsEntries eq) is (IsEntries-put eq laws es k v (length es) d)) l
