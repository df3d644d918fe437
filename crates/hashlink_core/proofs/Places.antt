-- The indices of places, and the ring's definitions by places in terms of them.
use Rattle.std.proofs.Common.{◌≡◌, ◌≢◌, ℕ, zero, suc, ◌+◌, ◌<◌, ◌≤◌, Bool, true, false, cond, List, [], ◌∷◌}
use Rattle.std.proofs.Common.{length, Option, None, Some, refl, ap, sym, subst, ◌∙◌, arith, add-one, ⊎_elim}
use Rattle.std.{proofs.lemmas.Bool.Decides.nat_tests, specs.Prelude.{slice_get, insert, remove, is_some}}
use Rattle.std.{specs.Option.{option_map, IfSome}, specs.List.list_any, proofs.lemmas.Bool.cases_lt}
use Rattle.std.specs.Map.{lookup, lookup_entry, remove_entry, set_value, keys_of}
use Rattle.std.proofs.lemmas.{Map.lookup-remove_entry, Map.Entries.length-keys_of, Map.Made.is_some-lookup}
use Rattle.std.proofs.lemmas.{List.Edits.insert_end, Option.slice_get_within}
use Rattle.hashlink_model.specs.Cursor as cursor
use Rattle.hashlink_model.{specs.Entries.{IsEntries, place_left, moved_at}, proofs.Finds.lookup_is}
use Rattle.hashlink_model.proofs.Places.{slice_get-place_or_end}
use Rattle.hashlink_model.proofs.Splits.{stands_from_lookup, lookup_entry-here}
use Rattle.hashlink_nodes.specs.Ring.{put_before, put_before_node, put_after, put_after_node, Holds, IsPlace}
use Rattle.hashlink_nodes.specs.{declared.node.Node.Node, Node.{same_node, same_node_equiv, eq-same_node}}
use Rattle.hashlink_nodes.specs.Ring.{MovesBefore, MovesAfter}
use Rattle.hashlink_core.proofs.Edits.{length-removed, place_or_end-cons, place_or_end-most, remove_entry-at}
use Rattle.hashlink_core.proofs.Edits.{place_left-past, place_left-first, place_left-suc, moved_at-is}
use Rattle.hashlink_core.{specs.Places.{place_number, renewed_at}, proofs.Edits.mapped-at}
use native.Mathlib.Nat.{mod-eq_of_lt, mod_self}

pub around : (n : ℕ) → cursor.following_place n n ≡ 0
around n = mod_self (n + 1)

pub following-within : (n i : ℕ) → i < n → cursor.following_place n i ≡ suc i
following-within n i lt = mod-eq_of_lt (omega arith) ∙ add-one i

-- the index of the place after b, once another place j is taken out
following-left : (n j b : ℕ) → j < n + 1 → b ≤ n + 1 → b ≢ j
    → place_left j (cursor.following_place (n + 1) b) ≡ cursor.following_place n (place_left j b)
following-left n j b lt le other =
    ⊎_elim
    (λ k.
    let near : place_left j b < n = grind (arith, nat_tests) in
    let left : place_left j (suc b) ≡ suc (place_left j b) = grind (arith, nat_tests) in
    rw (following-within (n + 1) b k, following-within n (place_left j b) near) left)
    (λ k.
    let end : b ≡ n + 1 = omega arith in
    let last : place_left j (n + 1) ≡ n = grind (arith, nat_tests) in
    let first : place_left j 0 ≡ 0 = grind (arith, nat_tests) in
    rw (end, around (n + 1), last, around n) first)
    (cases_lt b (n + 1))

-- the place is this node's
abbrev pub is_node : Option Node → Node → Bool
is_node None m = false
is_node (Some n) m = same_node n m

-- the index of a place depends only on the nodes
module _ {X Y : Type 0} where
  pub same-number : (es : List (Node × X)) (fs : List (Node × Y)) (p : Option Node)
      → keys_of es ≡ keys_of fs → place_number es p ≡ place_number fs p
  same-number es fs None same = omega (arith, length-keys_of es, length-keys_of fs, ap length same)
  same-number [] [] (Some n) same = refl
  same-number [] (f ∷ fs) (Some n) same = absurd (cc)
  same-number (e ∷ es) [] (Some n) same = absurd (cc)
  same-number (e ∷ es) (f ∷ fs) (Some n) same =
      let first : e.0 ≡ f.0 = cc in
      let rest : keys_of es ≡ keys_of fs = cc in
      rw (
        place_or_end-cons same_node e es n,
        place_or_end-cons same_node f fs n,
        first,
        same-number es fs (Some n) rest,
      ) refl

  pub same-place : (es : List (Node × X)) (fs : List (Node × Y)) (p : Option Node)
      → keys_of es ≡ keys_of fs → IsPlace es p → IsPlace fs p
  same-place es fs None same within = tt
  same-place es fs (Some n) same held = is_some-lookup (same_node n) fs
      ∙ ap (list_any (same_node n)) (sym same) ∙ sym (is_some-lookup (same_node n) es) ∙ held

module _ {X : Type 0} where
  -- ---- the place of a node

  -- the node with what it holds, at its place
  pub record IsNodeAt (es : List (Node × X)) (n : Node) (x : X) : Type 0 where
    pub found : lookup (same_node n) es ≡ Some x
    pub entry : lookup_entry (same_node n) es ≡ Some (n, x)
    pub at : slice_get es (place_number es (Some n)) ≡ Some (n, x)
    pub within : place_number es (Some n) < length es
    pub key_at : slice_get (keys_of es) (place_number es (Some n)) ≡ Some n

  some-from : (o : Option X) → is_some o ≡ true → (x : X) × (o ≡ Some x)
  some-from None h = absurd (cc)
  some-from (Some x) h = (x, refl)

  pub node-at : (es : List (Node × X)) (n : Node) → Holds es n → (x : X) × IsNodeAt es n x
  node-at es n held =
      let o = some-from (lookup (same_node n) es) held in
      let s = stands_from_lookup (same_node n) es o.0 o.1 in
      let first = ap (lookup_entry (same_node n)) s.3.is
      ∙ lookup_entry-here (same_node n) s.1 s.2 s.3.passes s.0 s.3.before in
      let value : s.1.1 ≡ o.0
      = cc (sym (lookup_is (same_node n) es ∙ ap (option_map (λ e. e.1)) first) ∙ o.1) in
      let entry : lookup_entry (same_node n) es ≡ Some (n, o.0)
      = first ∙ ap (λ x. Some (s.1.0, x)) value
      ∙ ap (λ m. Some (m, o.0)) (sym (eq-same_node n s.1.0 s.3.passes)) in
      let at = slice_get-place_or_end same_node n es ∙ entry in (
        o.0,
        record {
          found = o.1;
          entry = entry;
          at = at;
          within = slice_get_within es (place_number es (Some n)) (n, o.0) at;
          key_at = mapped-at (λ e. e.0) es (place_number es (Some n)) (n, o.0) at;
        },
      )

  place_number-most : (es : List (Node × X)) (p : Option Node) → place_number es p ≤ length es
  place_number-most es None = omega arith
  place_number-most es (Some n) = place_or_end-most same_node es n

  pub number-cons : (e : Node × X) (es : List (Node × X)) (p : Option Node)
      → place_number (e ∷ es) p ≡ cond (is_node p e.0) 0 (suc (place_number es p))
  number-cons e es None = refl
  number-cons e es (Some n) = place_or_end-cons same_node e es n

  -- ---- an entry inserted at a place
  pub put_before-at : (es : List (Node × X)) (p : Option Node) (x : Node × X)
      → put_before p x es ≡ insert es (place_number es p) x
  put_before-at es None x = sym (insert_end es x)
  put_before-at [] (Some n) x = refl
  put_before-at (e ∷ es) (Some n) x =
      rw (place_or_end-cons same_node e es n)
      (elim (same_node n e.0) as (λ b. cond b (x ∷ e ∷ es) (e ∷ put_before_node n x es)
      ≡ insert (e ∷ es) (cond b 0 (suc (place_number es (Some n)))) x)
      [ true ↦ refl | false ↦ ap (λ r. e ∷ r) (put_before-at es (Some n) x) ])

  put_after_node-at : (es : List (Node × X)) (n : Node) (x : Node × X)
      → put_after_node n x es ≡ insert es (suc (place_number es (Some n))) x
  put_after_node-at [] n x = refl
  put_after_node-at (e ∷ es) n x =
      rw (place_or_end-cons same_node e es n)
      (elim (same_node n e.0) as (λ b. cond b (e ∷ x ∷ es) (e ∷ put_after_node n x es)
      ≡ insert (e ∷ es) (suc (cond b 0 (suc (place_number es (Some n))))) x)
      [ true ↦ refl | false ↦ ap (λ r. e ∷ r) (put_after_node-at es n x) ])

  put_after-at : (x : Node × X) (es : List (Node × X)) (p : Option Node) → IsPlace es p
      → put_after p x es ≡ insert es (cursor.following_place (length es) (place_number es p)) x
  put_after-at x es None within = rw (around (length es)) refl
  put_after-at x es (Some m) within =
      rw (following-within (length es) (place_number es (Some m)) (node-at es m within).1.within)
      (put_after_node-at es m x)

  -- ---- an entry that is changed in place
  pub set_value-at : (f : X → X) (es : List (Node × X)) (n : Node) (x : X) → lookup (same_node n) es ≡ Some x
      → set_value (same_node n) es (f x) ≡ renewed_at f es (place_number es (Some n))
  set_value-at f [] n x at = refl
  set_value-at f (e ∷ es) n x at =
      rw (place_or_end-cons same_node e es n)
      ((elim (same_node n e.0) as (λ b. cond b (Some e.1) (lookup (same_node n) es) ≡ Some x
      → cond b ((e.0, f x) ∷ es) (e ∷ set_value (same_node n) es (f x))
      ≡ renewed_at f (e ∷ es) (cond b 0 (suc (place_number es (Some n))))) [
        | true ↦ λ h. let same : e.1 ≡ x = cc in ap (λ y. (e.0, f y) ∷ es) (sym same)
        | false ↦ λ h. ap (λ r. e ∷ r) (set_value-at f es n x h)
      ]) at)

  -- such a change leaves every place as it was
  pub keys-renewed : (f : X → X) (es : List (Node × X)) (j : ℕ) → keys_of (renewed_at f es j) ≡ keys_of es
  keys-renewed f [] j = refl
  keys-renewed f (e ∷ es) zero = refl
  keys-renewed f (e ∷ es) (suc j) = ap (λ r. e.0 ∷ r) (keys-renewed f es j)

  pub place_number-renewed : (f : X → X) (es : List (Node × X)) (j : ℕ) (p : Option Node)
      → place_number (renewed_at f es j) p ≡ place_number es p
  place_number-renewed f es j p = same-number (renewed_at f es j) es p (keys-renewed f es j)

  pub place-renewed : (f : X → X) (es : List (Node × X)) (j : ℕ) (p : Option Node) → IsPlace es p
      → IsPlace (renewed_at f es j) p
  place-renewed f es j p = same-place es (renewed_at f es j) p (sym (keys-renewed f es j))

  pub renewed-holds : (f : X → X) (es : List (Node × X)) (j : ℕ) (n : Node) → Holds es n
      → Holds (renewed_at f es j) n
  renewed-holds f es j n = place-renewed f es j (Some n)

  -- such a change is to take the entry out and to insert f of it
  pub renewed_at-is : (f : X → X) (es : List (Node × X)) (j : ℕ) (e : Node × X) → slice_get es j ≡ Some e
      → renewed_at f es j ≡ insert (remove es j) j (e.0, f e.1)
  renewed_at-is f [] j e at = absurd (cc)
  renewed_at-is f (y ∷ es) zero e at = let same : y ≡ e = cc in ap (λ z. (z.0, f z.1) ∷ es) same
  renewed_at-is f (y ∷ es) (suc j) e at = ap (λ r. y ∷ r) (renewed_at-is f es j e at)

  -- ---- the index of a place, once a node is taken out
  place_number-left : (es : List (Node × X)) (n : Node) (p : Option Node) → is_node p n ≡ false
      → place_number (remove_entry (same_node n) es) p
      ≡ place_left (place_number es (Some n)) (place_number es p)
  place_number-left [] n None apart = refl
  place_number-left [] n (Some m) apart = refl
  place_number-left (e ∷ es) n p apart =
      rw (number-cons e es (Some n), number-cons e es p)
      ((elim (same_node n e.0) as (λ b. same_node n e.0 ≡ b
      → place_number (cond b es (e ∷ remove_entry (same_node n) es)) p
      ≡ place_left (cond b 0 (suc (place_number es (Some n))))
      (cond (is_node p e.0) 0 (suc (place_number es p)))) [
        | true ↦ λ t. rw (← eq-same_node n e.0 t, apart) (sym (place_left-first (place_number es p)))
        | false ↦ λ t.
            rw (number-cons e (remove_entry (same_node n) es) p)
            (elim (is_node p e.0) as (λ b. cond b 0 (suc (place_number (remove_entry (same_node n) es) p))
            ≡ place_left (suc (place_number es (Some n))) (cond b 0 (suc (place_number es p)))) [
              | true ↦ sym (place_left-past (suc (place_number es (Some n))) 0 (omega arith))
              | false ↦ rw (place_left-suc (place_number es (Some n)) (place_number es p))
                  (ap suc (place_number-left es n p apart))
            ])
      ]) refl)

  -- ---- an entry that moves
  module _ (es : List (Node × X)) (n : Node) (p : Option Node) (d : IsEntries same_node es)
      (held : Holds es n) (within : IsPlace (remove_entry (same_node n) es) p) where
    abbrev x : X
    x = (node-at es n held).0

    at : IsNodeAt es n x
    at = (node-at es n held).1

    not-the-node : (q : Option Node) → IsPlace (remove_entry (same_node n) es) q → is_node q n ≡ false
    not-the-node None within = refl
    not-the-node (Some m) within =
        same_node_equiv.symm m n ∙ (elim (same_node n m)
        as (λ b. is_some (cond b None (lookup (same_node m) es)) ≡ true → b ≡ false)
        [ true ↦ λ h. absurd (cc h) | false ↦ λ h. refl ])
        (sym (ap is_some (lookup-remove_entry same_node_equiv (same_node n)
        (λ y z t. same_node_equiv.congr n y z t) m es d)) ∙ within)

    other-number : (q : Option Node) → is_node q n ≡ false → place_number es q ≢ place_number es (Some n)
    other-number None apart same = absurd (omega (arith, at.within, same))
    other-number (Some m) apart same =
        let found = sym (slice_get-place_or_end same_node m es) ∙ ap (slice_get es) same ∙ at.at in
        let s = stands_from_lookup (same_node m) es x (lookup_is (same_node m) es
        ∙ ap (option_map (λ e. e.1)) found) in
        let here : s.1 ≡ (n, x) = cc
        (sym (ap (lookup_entry (same_node m)) s.3.is
        ∙ lookup_entry-here (same_node m) s.1 s.2 s.3.passes s.0 s.3.before) ∙ found) in
        absurd (cc (sym s.3.passes ∙ ap (λ e. same_node m e.0) here ∙ apart))

    pub left-at : place_number (remove_entry (same_node n) es) p
        ≡ place_left (place_number es (Some n)) (place_number es p)
    left-at = place_number-left es n p (not-the-node p within)

    moved-to : (b : ℕ) → insert (remove_entry (same_node n) es)
        (place_left (place_number es (Some n)) b) (n, x)
        ≡ moved_at es (place_number es (Some n)) b
    moved-to b = rw (remove_entry-at same_node es n)
        (sym (moved_at-is es (place_number es (Some n)) b (n, x) at.at))

    pub moves_before-at : (fs : List (Node × X)) → MovesBefore es n p fs
        → fs ≡ moved_at es (place_number es (Some n)) (place_number es p)
    moves_before-at fs m =
        let rest = remove_entry (same_node n) es in
        let put = subst (λ o. IfSome o (λ e. fs ≡ put_before p e rest)) at.entry m in
        put ∙ put_before-at rest p (n, x) ∙ ap (λ i. insert rest i (n, x)) left-at
        ∙ moved-to (place_number es p)

    pub moves_after-at : (fs : List (Node × X)) → MovesAfter es n p fs
        → fs ≡ moved_at es (place_number es (Some n)) (cursor.following_place (length es) (place_number es p))
    moves_after-at fs m =
        let rest = remove_entry (same_node n) es in
        let put = subst (λ o. IfSome o (λ e. fs ≡ put_after p e rest)) at.entry m in
        let j = place_number es (Some n) in
        let fewer : length rest + 1 ≡ length es =
        ap (λ l. length l + 1) (remove_entry-at same_node es n) ∙ length-removed es j (n, x) at.at in
        let after = following-left (length rest) j (place_number es p) (omega (arith, at.within, fewer))
        (omega (arith, place_number-most es p, fewer)) (other-number p (not-the-node p within)) in
        put ∙ put_after-at (n, x) rest p within
        ∙ ap (λ b. insert rest (cursor.following_place (length rest) b) (n, x)) left-at
        ∙ ap (λ i. insert rest i (n, x)) (sym after)
        ∙ ap (λ l. insert rest (place_left j (cursor.following_place l (place_number es p))) (n, x)) fewer
        ∙ moved-to (cursor.following_place (length es) (place_number es p))
