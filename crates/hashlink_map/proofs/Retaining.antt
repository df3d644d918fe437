-- A retain on its way along the list: what it has kept, and the entries on which it has yet to call the
-- closure.
use Rattle.std.proofs.{lemmas.List.nil_from_length, Common.append_assoc}
use Rattle.hashlink_core.proofs.Names
use Names.{◌≡◌, suc, ◌+◌, ◌-◌, ◌<◌, Bool, true, false, cond, List, [], ◌∷◌, ◌++◌, length, Option, None, Some}
use Names.{refl, ap, ap₂, sym, subst, ◌∙◌, arith, slice_get, remove, Bor, MutBor, Mut, Called, remove_entry}
use Names.{CallableOnEachPair, CalledAtPair, length-append, length-values_of, following_place, set_value_at}
use Names.{KeepsOnly, set_value_at-here, Node, same_node, IsPlace, Keyed, IsKeyed, entries_of, state_of}
use Names.{pair_with_value, with_value_at, place_number, IsPlaceAt, RemovesNode, remove_entry-at}
use Names.{following-within, place_number-renewed, node-at}
use Rattle.hashlink_core.proofs.{Names.{place-renewed, keys-renewed, left-at}, Edits.place_left-before}
use Rattle.hashlink_core.proofs.{Keeping.left-place, Mapped.values-renewed_value}
use Rattle.hashlink_model.specs.Retain.{KeepsInOrder, RetainsInOrder}
use Rattle.hashlink_model.proofs.ByPlace.{length-set_value_at, keys-set_value_at, remove-here}

module _ {X : Type 0} where
  -- the element directly after xs is the first of ys
  begins : (xs ys : List X) (x : X) → slice_get (xs ++ ys) (length xs) ≡ Some x
      → (zs : List X) × (ys ≡ x ∷ zs)
  begins [] [] x at = absurd (cc)
  begins [] (y ∷ ys) x at = let same : y ≡ x = cc in (ys, ap (λ z. z ∷ ys) same)
  begins (z ∷ xs) ys x at = begins xs ys x at

-- a write of a value leaves the list sound
sound-written : {K V S : Type 0} (eq : K → K → Bool) (m : Keyed K V S) (n : Node) (w : V) → IsKeyed eq m
    → IsKeyed eq (with_value_at m n w)
sound-written eq m n w sound =
    let j = place_number m.nodes (Some n) in
    let written = values-renewed_value m.nodes j w in
    record {
      distinct = rw (written, keys-set_value_at (entries_of m) j w) sound.distinct;
      apart = rw (keys-renewed (pair_with_value w) m.nodes j) sound.apart;
      fits = omega (arith, sound.fits, ap length written, length-set_value_at (entries_of m) j w);
    }

pub called-at : {F K V : Type 0} (g : Mut F (Bor K × (MutBor V × Unit {0})) (Bool × (MutBor V × Unit {0})))
    {f f' : F}
    {k : Bor K} {v w : MutBor V} {b : Bool} → Called g f (k, (v, tt)) (b, (w, tt)) f'
    → CalledAtPair g f k.now v.now b w.now f'
called-at g c = record { key = _; value = _; shows = (refl, refl); left = _; called = c; leaves = refl }

-- the calls up to the place p kept the entries before it, and left the closure as f
pub record Retaining {F K V S : Type 0} (eq : K → K → Bool) (T : F → K → V → Bool → V → F → Type 0)
    (Q : F → K → V → Type 0) (start : F) (old : Keyed K V S) (f : F) (m : Keyed K V S)
    (p : Option Node) : Type 0 where
  pub within : IsPlace m.nodes p
  pub done : List (K × V)
  pub left : List (K × V)
  pub is : entries_of m ≡ done ++ left
  pub number : place_number m.nodes p ≡ length done
  pub callable : CallableOnEachPair T Q f left
  pub calls : (out : List (K × V)) (g : F) → KeepsInOrder T f left out g
      → KeepsInOrder T start (entries_of old) (done ++ out) g
  pub keeps : KeepsOnly (state_of old) (state_of m) (entries_of m)
  pub sound : IsKeyed eq m

module _ {F K V S : Type 0} {eq : K → K → Bool} {T : F → K → V → Bool → V → F → Type 0}
    {Q : F → K → V → Type 0} {start : F} {old : Keyed K V S} where
  pub retaining-first : {p : Option Node} → IsPlaceAt old.nodes p 0 → IsKeyed eq old
      → CallableOnEachPair T Q start (entries_of old) → Retaining eq T Q start old start old p
  retaining-first first sound callable = record {
    within = first.within;
    done = [];
    left = entries_of old;
    is = refl;
    number = first.number;
    callable = callable;
    calls = λ out g k. k;
    keeps = record {
      entries = refl;
      no_more = omega arith;
      spare = refl;
      room = refl;
      link_writes = record { grows = omega arith; bound = omega arith };
      hasher = refl;
    };
    sound = sound;
  }

  many-left : {f : F} {m : Keyed K V S} {p : Option Node} → (r : Retaining eq T Q start old f m p)
      → length m.nodes - place_number m.nodes p ≡ length r.left
  many-left {m = m} r = omega (
    arith,
    r.number,
    length-values_of m.nodes,
    ap length r.is,
    length-append r.done r.left,
  )

  module _ {f : F} {m : Keyed K V S} {p : Option Node} (found : Retaining eq T Q start old f m p) where
    -- the place is the guard
    pub retained-all : p ≡ None → RetainsInOrder T start (state_of old) (state_of m) f
    retained-all end =
        let none = nil_from_length found.left
        (omega (arith, many-left found, ap (place_number m.nodes) end)) in
        record {
          kept = entries_of m;
          calls = rw found.is (found.calls found.left f
              (subst (λ l. KeepsInOrder T f l l f) (sym none) (refl, refl)));
          keeps = found.keeps;
        }

    -- the place is n, with the pair (k, v)
    module _ {n : Node} {k : K} {v : V} (here : p ≡ Some n)
        (at : slice_get (entries_of m) (place_number m.nodes (Some n)) ≡ Some (k, v)) where
      place : place_number m.nodes (Some n) ≡ length found.done
      place = ap (place_number m.nodes) (sym here) ∙ found.number

      rest : (zs : List (K × V)) × (found.left ≡ (k, v) ∷ zs)
      rest = begins found.done found.left (k, v) (ap₂ slice_get (sym found.is) (sym place) ∙ at)

      callable-here : CallableOnEachPair T Q f ((k, v) ∷ rest.0)
      callable-here = subst (CallableOnEachPair T Q f) rest.1 found.callable

      pub takes-pair : Q f k v
      takes-pair = callable-here.at [] rest.0 f k v refl refl

      -- the closure was called, and q is the place after n
      module _ {b : Bool} {w : V} {f' : F} {q : Option Node} (call : T f k v b w f')
          (next : IsPlaceAt m.nodes q
          (following_place (length (entries_of m)) (place_number m.nodes (Some n)))) where
        callable-after : CallableOnEachPair T Q f' rest.0
        callable-after = record {
          at = λ before after g k' v' is folds. callable-here.at ((k, v) ∷ before) after g k' v'
              (ap (λ l. (k, v) ∷ l) is) (f', (b, w, call), folds);
        }

        calls-after : (out : List (K × V)) (g : F) → KeepsInOrder T f' rest.0 out g
            → KeepsInOrder T start (entries_of old) (found.done ++ cond b ((k, w) ∷ out) out) g
        calls-after out g more =
            found.calls (cond b ((k, w) ∷ out) out) g (rw rest.1 (b, w, f', out, call, more, refl))

        -- the list with what was written
        abbrev wrote : Keyed K V S
        wrote = with_value_at m n w

        was : entries_of m ≡ found.done ++ (k, v) ∷ rest.0
        was = found.is ∙ ap (λ l. found.done ++ l) rest.1

        now : entries_of wrote ≡ found.done ++ (k, w) ∷ rest.0
        now = values-renewed_value m.nodes (place_number m.nodes (Some n)) w
            ∙ ap₂ (λ es i. set_value_at es i w) was place ∙ set_value_at-here found.done (k, v) rest.0 w

        long : length (entries_of wrote) ≡ length (entries_of m)
        long = omega (
          arith,
          ap length was,
          ap length now,
          length-append found.done ((k, v) ∷ rest.0),
          length-append found.done ((k, w) ∷ rest.0),
        )

        inside : place_number m.nodes (Some n) < length (entries_of m)
        inside =
            let held = node-at m.nodes n (subst (IsPlace m.nodes) here found.within) in
            omega (arith, held.1.within, length-values_of m.nodes)

        place-now : (o : Option Node) → place_number wrote.nodes o ≡ place_number m.nodes o
        place-now = place_number-renewed (pair_with_value w) m.nodes (place_number m.nodes (Some n))

        within-now : (o : Option Node) → IsPlace m.nodes o → IsPlace wrote.nodes o
        within-now = place-renewed (pair_with_value w) m.nodes (place_number m.nodes (Some n))

        next-now : place_number wrote.nodes q ≡ suc (length found.done)
        next-now = place-now q ∙ next.number
            ∙ following-within (length (entries_of m)) (place_number m.nodes (Some n)) inside ∙ ap suc place

        -- the closure kept the pair
        pub pair-kept : b ≡ true → Retaining eq T Q start old f' wrote q
            × (length wrote.nodes - place_number wrote.nodes q < length m.nodes - place_number m.nodes p)
        pair-kept keep =
            let kept : Retaining eq T Q start old f' wrote q =
            record {
              within = within-now q next.within;
              done = found.done ++ (k, w) ∷ [];
              left = rest.0;
              is = now ∙ sym (append_assoc found.done ((k, w) ∷ []) rest.0);
              number = omega (arith, next-now, length-append found.done ((k, w) ∷ []));
              callable = callable-after;
              calls = λ out g more. rw append_assoc (rw keep at (calls-after out g more));
              keeps = record {
                entries = refl;
                no_more = omega (arith, found.keeps.no_more, long);
                spare = omega (arith, found.keeps.spare, long);
                room = found.keeps.room;
                link_writes = record {
                  grows = found.keeps.link_writes.grows;
                  bound = omega (arith, found.keeps.link_writes.bound, long);
                };
                hasher = found.keeps.hasher;
              };
              sound = sound-written eq m n w found.sound;
            } in
            (kept, omega (arith, many-left kept, many-left found, ap length rest.1))

        -- the closure did not, and n was removed
        pub pair-dropped : {new : Keyed K V S} → b ≡ false
            → RemovesNode wrote new (place_number wrote.nodes (Some n))
            → IsKeyed eq new → Retaining eq T Q start old f' new q
            × (length new.nodes - place_number new.nodes q < length m.nodes - place_number m.nodes p)
        pair-dropped {new} drop removed sound =
            let apart = (sound-written eq m n w found.sound).apart in
            let held = within-now (Some n) (subst (IsPlace m.nodes) here found.within) in
            let first : place_number wrote.nodes (Some n) ≡ length found.done = place-now (Some n) ∙ place in
            let nodes : new.nodes ≡ remove_entry (same_node n) wrote.nodes =
            removed.nodes ∙ sym (remove_entry-at same_node wrote.nodes n) in
            let within = left-place wrote.nodes apart n q
            (λ same. omega (arith, next-now, first, ap (place_number wrote.nodes) same))
            (within-now q next.within) in
            let number : place_number new.nodes q ≡ length found.done =
            rw (
              nodes,
              left-at wrote.nodes n q apart held within,
              first,
              next-now,
              place_left-before (length found.done) (suc (length found.done)) (omega arith),
            ) (omega arith) in
            let shorter : entries_of new ≡ found.done ++ rest.0 =
            removed.state.entries ∙ ap₂ remove now first ∙ remove-here found.done (k, w) rest.0 in
            let fewer : length (entries_of new) + 1 ≡ length (entries_of m) =
            ap (λ l. length l + 1) removed.state.entries ∙ removed.state.fewer ∙ long in
            let dropped : Retaining eq T Q start old f' new q =
            record {
              within = subst (λ ns. IsPlace ns q) (sym nodes) within;
              done = found.done;
              left = rest.0;
              is = shorter;
              number = number;
              callable = callable-after;
              calls = λ out g more. rw drop at (calls-after out g more);
              keeps = record {
                entries = refl;
                no_more = omega (arith, found.keeps.no_more, fewer);
                spare = omega (arith, found.keeps.spare, fewer, removed.state.spare);
                room = removed.state.room ∙ found.keeps.room;
                link_writes = record {
                  grows = omega (arith, found.keeps.link_writes.grows, removed.state.link_writes.grows);
                  bound = omega (
                    arith,
                    found.keeps.link_writes.bound,
                    removed.state.link_writes.bound,
                    found.keeps.no_more,
                    fewer,
                  );
                };
                hasher = removed.state.hasher ∙ found.keeps.hasher;
              };
              sound = sound;
            } in
            (dropped, omega (arith, many-left dropped, many-left found, ap length rest.1))
