-- Entries in the order of a number, such as a time, which does not fall from one entry to the next.
use Rattle.std.proofs.Common.{◌≡◌, ◌<◌, ℕ, Bool, true, false, cond, List, [], ◌∷◌, ◌++◌, length, Option, Some}
use Rattle.std.proofs.Common.{Result, Ok, Err, refl, sym, ap, ◌∙◌, arith, ◌≤◌, zero, suc, filter, ◌-◌, nat_le}
use Rattle.std.proofs.Common.{le_refl, zero-le}
use Rattle.std.proofs.lemmas.Bool.{le-leb, lt-leb}
use Rattle.std.proofs.lemmas.List.Elements.{All-head, All-tail, All-push}
use Rattle.std.proofs.lemmas.List.Sorted.{IsNonDecreasingBy-drop, IsNonDecreasingBy-push}
use Rattle.std.proofs.lemmas.Option.{same_Some, slice_get-get_or}
use Rattle.std.specs.List.Sorted.{IsNonDecreasingBy}
use Rattle.std.specs.Map.{remove_entry}
use Rattle.std.specs.Option.{option_map_or}
use Rattle.std.specs.Prelude.{All}
use Rattle.hashlink_map.proofs.EachEntry.{All-remove_entry}
use Rattle.hashlink_map.proofs.Inserting.{inserts_back}
use Rattle.hashlink_model.specs.Entries.{stored_key, without}
use Rattle.hashlink_model.specs.MapState.{MapState, Inserts}
use Rattle.hashlink_model.specs.Walk.{first_of, last_of}
use Rattle.std.proofs.Common.{None, drop, subst}
use Rattle.std.proofs.Math.Seq.{drop-append_seam}
use Rattle.std.proofs.lemmas.List.{append_assoc}
use Rattle.std.proofs.lemmas.List.Elements.{All-nil}
use Rattle.std.proofs.lemmas.Option.{none-some}
use Rattle.std.specs.Map.Iter.{TakesFirst}
use Rattle.std.specs.Option.{IfSome}
use Rattle.hashlink_map.proofs.Listed.{by_first}

module _ {K V : Type 0} (n : K × V → ℕ) where
  -- the number of the last entry, which is the greatest in an ordered list; 0 if the list is empty
  abbrev pub number_of_last : List (K × V) → ℕ
  number_of_last es = option_map_or n (last_of es) 0

  -- goal: a bound on each number, from a bound on the last entry's; a bound on the last entry's, from a bound
  -- on each; and a lower bound on each, from one on the first entry's
  pub All-from_last : (es : List (K × V)) (m : ℕ) → IsNonDecreasingBy n es → number_of_last es ≤ m
      → All (λ e. n e ≤ m) es
  All-from_last es m up le k d lt =
      let last = ap (λ o. option_map_or n o 0) (slice_get-get_or es (length es - 1) d (omega arith)) in
      omega (arith, last, le, up k (length es - 1) d (omega arith) (omega arith))

  pub number_of_last-from_All : (es : List (K × V)) (m : ℕ) → All (λ e. n e ≤ m) es → number_of_last es ≤ m
  number_of_last-from_All [] m a = zero-le
  number_of_last-from_All (e ∷ es) m a =
      let end = length (e ∷ es) - 1 in
      let last = ap (λ o. option_map_or n o 0) (slice_get-get_or (e ∷ es) end e (omega arith)) in
      omega (arith, last, a end e (omega arith))

  pub All-from_first : (es : List (K × V)) (m : ℕ) (e : K × V) → IsNonDecreasingBy n es → first_of es ≡ Some e
      → m ≤ n e
      → All (λ x. m ≤ n x) es
  All-from_first es m e up first le k d lt =
      let here = ap n (same_Some _ e (sym (slice_get-get_or es 0 d (omega arith)) ∙ first)) in
      omega (arith, here, le, up 0 k d (omega arith) lt)

  IsNonDecreasingBy-cons : (e : K × V) (es : List (K × V)) → All (λ x. n e ≤ n x) es → IsNonDecreasingBy n es
      → IsNonDecreasingBy n (e ∷ es)
  IsNonDecreasingBy-cons e es a up zero zero d le lt = omega arith
  IsNonDecreasingBy-cons e es a up zero (suc j) d le lt = a j d (omega arith)
  IsNonDecreasingBy-cons e es a up (suc i) zero d le lt = absurd (omega arith)
  IsNonDecreasingBy-cons e es a up (suc i) (suc j) d le lt = up i j d (omega arith) (omega arith)

  -- goal: the order of the entries left without the entry of a key
  pub IsNonDecreasingBy-remove_entry : (test : K → Bool) (es : List (K × V)) → IsNonDecreasingBy n es
      → IsNonDecreasingBy n (remove_entry test es)
  IsNonDecreasingBy-remove_entry test [] up = up
  IsNonDecreasingBy-remove_entry test (e ∷ es) up =
      by (test e.0) (IsNonDecreasingBy-remove_entry test es (IsNonDecreasingBy-drop n 1 (e ∷ es) up))
    where
      above : All (λ x. n e ≤ n x) es
      above k d lt = up 0 (suc k) d (omega arith) (omega arith)

      by : (b : Bool) → IsNonDecreasingBy n (remove_entry test es)
          → IsNonDecreasingBy n (cond b es (e ∷ remove_entry test es))
      by true h = IsNonDecreasingBy-drop n 1 (e ∷ es) up
      by false h =
          IsNonDecreasingBy-cons e (remove_entry test es) (All-remove_entry (λ x. n e ≤ n x) test es above) h

  -- goal: the order after an entry was inserted last whose number is the greatest, and the greatest number
  pub ordered-push : (es : List (K × V)) (e : K × V) → IsNonDecreasingBy n es → All (λ x. n x ≤ n e) es
      → IsNonDecreasingBy n (es ++ e ∷ []) × (number_of_last (es ++ e ∷ []) ≤ n e)
  ordered-push es e up a = (
    IsNonDecreasingBy-push n es e up (λ d lt. a (length es - 1) d (omega arith)),
    number_of_last-from_All (es ++ e ∷ []) (n e) (All-push (λ x. n x ≤ n e) es e a (le_refl (n e))),
  )

  -- goal: the same after the entry that a test passes, if there is one, left its place for an entry put last
  pub ordered-put_last : (test : K → Bool) (es : List (K × V)) (e : K × V) → IsNonDecreasingBy n es
      → All (λ x. n x ≤ n e) es
      → IsNonDecreasingBy n (remove_entry test es ++ e ∷ [])
      × (number_of_last (remove_entry test es ++ e ∷ []) ≤ n e)
  ordered-put_last test es e up a =
      ordered-push (remove_entry test es) e (IsNonDecreasingBy-remove_entry test es up)
      (All-remove_entry (λ x. n x ≤ n e) test es a)

  pub ordered-put_back : (eq : K → K → Bool) (es : List (K × V)) (k : K) (v : V) → IsNonDecreasingBy n es
      → number_of_last es ≤ n (stored_key eq es k, v)
      → IsNonDecreasingBy n (without eq es k ++ (stored_key eq es k, v) ∷ [])
      × (number_of_last (without eq es k ++ (stored_key eq es k, v) ∷ []) ≤ n (stored_key eq es k, v))
  ordered-put_back eq es k v up le =
      let e : K × V = (stored_key eq es k, v) in
      ordered-put_last (eq k) es e up (All-from_last es (n e) up le)

  -- goal: the entries left after entries left the front until one had at least the number m, as a filter
  pub filter-front : (m : ℕ) (es rest : List (K × V)) → All (λ e. n e < m) es → All (λ e. m ≤ n e) rest
      → filter (λ e. nat_le m (n e)) (es ++ rest) ≡ rest
  filter-front m [] [] gone left = refl
  filter-front m [] (e ∷ rest) gone left =
      rw (le-leb m (n e) (All-head (λ e. m ≤ n e) e rest left))
      (ap (λ r. e ∷ r) (filter-front m [] rest gone (All-tail (λ e. m ≤ n e) e rest left)))
  filter-front m (e ∷ es) rest gone left =
      rw (lt-leb m (n e) (All-head (λ e. n e < m) e es gone))
      (filter-front m es rest (All-tail (λ e. n e < m) e es gone) left)

  -- ---- pops from the front up to a bound

  -- entries with numbers below m left the front of `old`, and es are left
  abbrev pub PopsBelow : ℕ → List (K × V) → List (K × V) → Type 0
  PopsBelow m old es = (gone : List (K × V)) × (old ≡ gone ++ es) × All (λ e. n e < m) gone

  -- goal: before the first pop, and after one more of an entry that `front` returned
  pub PopsBelow-start : (m : ℕ) (es : List (K × V)) → PopsBelow m es es
  PopsBelow-start m es = ([], refl, All-nil (λ e. n e < m))

  pub PopsBelow-pop : (m : ℕ) (old es left : List (K × V)) (e : K × V) (o : Option (K × V))
      → PopsBelow m old es → Some e ≡ first_of es → n e < m → TakesFirst (λ x. x) es o left
      → PopsBelow m old left
  PopsBelow-pop m old es left e None (gone, is, below) first lt t =
      absurd (none-some e (sym (first ∙ ap first_of t.0)))
  PopsBelow-pop m old es left e (Some x) (gone, is, below) first lt t =
      let same = same_Some e x (first ∙ ap first_of t) in (
        gone ++ e ∷ [],
        is ∙ ap (λ zs. gone ++ zs) (t ∙ ap (λ y. y ∷ left) (sym same))
            ∙ sym (append_assoc gone (e ∷ []) left),
        All-push (λ y. n y < m) gone e below lt,
      )

  -- goal: the entries left are in order, and once the first has at least the number m they are all that have
  pub PopsBelow-order : (m : ℕ) (old es : List (K × V)) → PopsBelow m old es → IsNonDecreasingBy n old
      → IsNonDecreasingBy n es
  PopsBelow-order m old es (gone, is, below) up =
      subst (IsNonDecreasingBy n) (ap (drop (length gone)) is ∙ drop-append_seam gone es)
      (IsNonDecreasingBy-drop n (length gone) old up)

  pub PopsBelow-all : (m : ℕ) (old es : List (K × V)) → PopsBelow m old es → IsNonDecreasingBy n old
      → (o : Option (K × V)) → o ≡ first_of es → IfSome o (λ e. m ≤ n e)
      → es ≡ filter (λ e. nat_le m (n e)) old
  PopsBelow-all m old es (gone, is, below) up o first least =
      sym (ap (filter (λ e. nat_le m (n e))) is ∙ filter-front m gone es below (by o first least))
    where
      by : (o : Option (K × V)) → o ≡ first_of es → IfSome o (λ e. m ≤ n e) → All (λ e. m ≤ n e) es
      by None first least = subst (All (λ e. m ≤ n e)) (sym (by_first es None first)) (All-nil (λ e. m ≤ n e))
      by (Some e) first least =
          All-from_first es m e (PopsBelow-order m old es (gone, is, below) up) (sym first) least

  -- goal: the order, and a bound on the greatest number, after an insert at the end
  module _ {S : Type 0} (old new : MapState K V S) where
    pub ordered-inserts : (eq : K → K → Bool) (k : K) (v : V) (r : Result (Option V) (K × V))
        → Inserts eq old new k v (length old.entries) r → IsNonDecreasingBy n old.entries
        → number_of_last old.entries ≤ n (stored_key eq old.entries k, v)
        → IsNonDecreasingBy n new.entries × (number_of_last new.entries ≤ n (stored_key eq old.entries k, v))
    ordered-inserts eq k v (Ok w) s up le =
        rw ((inserts_back eq old new k v (Ok w) s).1) (ordered-put_back eq old.entries k v up le)
    ordered-inserts eq k v (Err pair) s up le = rw s.grows.entries (up, le)
