-- Lists after a key was put, moved or taken out: lengths, lookups, and the same step once more.
use Rattle.hashlink_model.proofs.Names.{ap₂, inl, inr, ◌≡◌, ℕ, ◌+◌, Bool, true, false, cond, List, [], ◌∷◌}
use Rattle.hashlink_model.proofs.Names.{◌++◌, length, None, Some, refl, sym, ap, ◌∙◌, arith, take, drop}
use Rattle.hashlink_model.proofs.Names.{option_map_or, IsEquivalence, lookup, lookup_entry, NonePasses}
use Rattle.hashlink_model.proofs.Names.{take-append-drop, length-append, IsEntries, place_without, without}
use Rattle.hashlink_model.proofs.Splits.{none_from_lookup, remove_entry-none, remove_entry-here}
use Rattle.hashlink_model.proofs.Finds.{lookup_is, lookup_key_is, stored_key-equal, lookup_entry-without}
use Rattle.hashlink_model.{proofs.Names.{stored_key, put, moved, moved_at}, specs.Entries.moved_match}
use Rattle.hashlink_model.proofs.{Splits.{place_of-none, splits}, Distinct.each-left, Finds.lookup-equal}
use Rattle.hashlink_model.proofs.Puts.{put_back, put_front, lookup_entry-put, none_without, puts}
use Rattle.hashlink_model.proofs.Puts.{IsEntries-put}
pub use Rattle.hashlink_model.proofs.ByPlace.{moved-there}

pub moved_match-none : {K V : Type 0} (test : K → Bool) (es : List (K × V)) (b : ℕ) → NonePasses test es
    → moved_match test es b ≡ es
moved_match-none test es b n = ap (λ o. option_map_or (λ j. moved_at es j b) o es) (place_of-none test es n)

module _ {K V : Type 0} (eq : K → K → Bool) where
  -- ---- lengths

  pub length-without_absent : (es : List (K × V)) (k : K) → lookup (eq k) es ≡ None
      → length (without eq es k) ≡ length es
  length-without_absent es k l = ap length (remove_entry-none (eq k) es (none_from_lookup (eq k) es l))

  pub length-without_there : (es : List (K × V)) (k : K) (w : V) → lookup (eq k) es ≡ Some w
      → length (without eq es k) + 1 ≡ length es
  length-without_there [] k w l = cc
  length-without_there (e ∷ es) k w l = grind (arith, length-without_there es k w)

  -- one entry more than without the key, at whatever place it is put
  pub length-put : (es : List (K × V)) (k : K) (v : V) (b : ℕ)
      → length (put eq es k v b) ≡ length (without eq es k) + 1
  length-put es k v b =
      let j = place_without eq es k b in
      let zs = without eq es k in
      let a = length-append (take j zs) ((stored_key eq es k, v) ∷ drop j zs) in
      omega (arith, length-append (take j zs) (drop j zs), ap length (take-append-drop j zs))

  pub length-put_absent : (es : List (K × V)) (k : K) (v : V) (b : ℕ) → lookup (eq k) es ≡ None
      → length (put eq es k v b) ≡ length es + 1
  length-put_absent es k v b l = length-put es k v b ∙ ap (λ n. n + 1) (length-without_absent es k l)

  pub length-put_there : (es : List (K × V)) (k : K) (v : V) (b : ℕ) (w : V) → lookup (eq k) es ≡ Some w
      → length (put eq es k v b) ≡ length es
  length-put_there es k v b w l = length-put es k v b ∙ length-without_there es k w l

  -- ---- a move is a put of the present value

  pub moved-absent : (es : List (K × V)) (k : K) (b : ℕ) → lookup (eq k) es ≡ None → moved eq es k b ≡ es
  moved-absent es k b l = moved_match-none (eq k) es b (none_from_lookup (eq k) es l)

  -- so a move is determined by the lookup
  pub moved_is : (es : List (K × V)) (k : K) (b : ℕ)
      → moved eq es k b ≡ option_map_or (λ w. put eq es k w b) (lookup (eq k) es) es
  moved_is es k b = grind (arith, moved-absent es k b, moved-there eq es k b)

  pub length-moved : (es : List (K × V)) (k : K) (b : ℕ) → length (moved eq es k b) ≡ length es
  length-moved es k b = rw (moved_is es k b) (grind (arith, length-put_there es k))

-- a move by a test; if the test passes a key, it is the move of this key
pub length-moved_match : {K V : Type 0} (test : K → Bool) (es : List (K × V)) (b : ℕ)
    → length (moved_match test es b) ≡ length es
length-moved_match test es b = elim (splits test es)
    [ inl n ↦ ap length (moved_match-none test es b n) | inr s ↦ length-moved (λ _. test) es s.1.0 b ]

module _ {K V : Type 0} (eq : K → K → Bool) (laws : IsEquivalence eq) where
  -- ---- lookups after a put

  pub lookup-put : (q : K) (es : List (K × V)) (k : K) (v : V) (b : ℕ) → IsEntries eq es
      → lookup (eq q) (put eq es k v b) ≡ cond (eq k q) (Some v) (lookup (eq q) es)
  lookup-put q es k v b d =
      let after = lookup_is (eq q) (put eq es k v b) in
      grind (arith, after, lookup_is (eq q) es, lookup_entry-put eq laws q es k v b d)

  pub lookup-put_same : (q : K) (es : List (K × V)) (k : K) (v : V) (b : ℕ) → IsEntries eq es → eq k q ≡ true
      → lookup (eq q) (put eq es k v b) ≡ Some v
  lookup-put_same q es k v b d t = lookup-put q es k v b d ∙ rw t refl

  pub lookup_entry-put_other : (q : K) (es : List (K × V)) (k : K) (v : V) (b : ℕ)
      → IsEntries eq es → eq k q ≡ false → lookup_entry (eq q) (put eq es k v b) ≡ lookup_entry (eq q) es
  lookup_entry-put_other q es k v b d t = lookup_entry-put eq laws q es k v b d ∙ rw t refl

  -- the stored key stays
  pub stored_key-put : (es : List (K × V)) (k : K) (v : V) (b : ℕ) → IsEntries eq es
      → stored_key eq (put eq es k v b) k ≡ stored_key eq es k
  stored_key-put es k v b d =
      let after = lookup_key_is (eq k) (put eq es k v b) in
      grind (arith, after, lookup_key_is (eq k) es, lookup_entry-put eq laws k es k v b d, laws.refl k)

  -- ---- lookups after a removal

  pub lookup-without : (q : K) (es : List (K × V)) (k : K) → IsEntries eq es
      → lookup (eq q) (without eq es k) ≡ cond (eq k q) None (lookup (eq q) es)
  lookup-without q es k d =
      let after = lookup_is (eq q) (without eq es k) in
      grind (arith, after, lookup_is (eq q) es, lookup_entry-without eq laws q k es d)

  pub lookup-without_same : (q : K) (es : List (K × V)) (k : K) → IsEntries eq es → eq k q ≡ true
      → lookup (eq q) (without eq es k) ≡ None
  lookup-without_same q es k d t = lookup-without q es k d ∙ rw t refl

  pub lookup_entry-without_other : (q : K) (es : List (K × V)) (k : K) → IsEntries eq es → eq k q ≡ false
      → lookup_entry (eq q) (without eq es k) ≡ lookup_entry (eq q) es
  lookup_entry-without_other q es k d t = lookup_entry-without eq laws q k es d ∙ rw t refl

  -- ---- the same key once more

  pub without-put : (es : List (K × V)) (k : K) (v : V) (b : ℕ) → IsEntries eq es
      → without eq (put eq es k v b) k ≡ without eq es k
  without-put es k v b d =
      let j = place_without eq es k b in
      let zs = without eq es k in
      let none : NonePasses (eq k) (take j zs ++ drop j zs)
      = rw (take-append-drop j zs) (none_without eq laws es k d) in
      remove_entry-here (eq k) (stored_key eq es k, v) (drop j zs) (stored_key-equal eq laws k es) (take j zs)
      (each-left _ (take j zs) (drop j zs) none) ∙ take-append-drop j zs

  pub put_back_twice : (es : List (K × V)) (k : K) (v w : V) → IsEntries eq es
      → put eq (put eq es k v (length es)) k w (length (put eq es k v (length es)))
      ≡ put eq es k w (length es)
  put_back_twice es k v w d =
      put_back eq (put eq es k v (length es)) k w
      ∙ ap₂ (λ zs k0. zs ++ (k0, w) ∷ []) (without-put es k v (length es) d)
      (stored_key-put es k v (length es) d) ∙ sym (put_back eq es k w)

  pub put_front_twice : (es : List (K × V)) (k : K) (v w : V) → IsEntries eq es
      → put eq (put eq es k v 0) k w 0 ≡ put eq es k w 0
  put_front_twice es k v w d =
      put_front eq (put eq es k v 0) k w
      ∙ ap₂ (λ zs k0. (k0, w) ∷ zs) (without-put es k v 0 d) (stored_key-put es k v 0 d)
      ∙ sym (put_front eq es k w)

  pub lookup-moved : (q : K) (es : List (K × V)) (k : K) (b : ℕ) → IsEntries eq es
      → lookup (eq q) (moved eq es k b) ≡ lookup (eq q) es
  lookup-moved q es k b d =
      let put1 : (w : V) → lookup (eq q) (put eq es k w b) ≡ cond (eq k q) (Some w) (lookup (eq q) es)
      = λ w. lookup-put q es k w b d in
      rw (moved_is eq es k b) (grind (arith, put1, lookup-equal eq laws k q es))

  pub IsEntries-moved : (es : List (K × V)) (k : K) (b : ℕ) → IsEntries eq es → IsEntries eq (moved eq es k b)
  IsEntries-moved es k b d =
      let put1 : (w : V) → IsEntries eq (put eq es k w b) = λ w. IsEntries-put eq laws es k w b d in
      rw (moved_is eq es k b) (grind (arith, d, put1))

  -- if a second put at a place changes nothing, a second move to the place changes nothing
  pub moved_twice : (es : List (K × V)) (k : K) (b : ℕ) → IsEntries eq es
      → ((w : V) → lookup (eq k) es ≡ Some w → put eq (put eq es k w b) k w b ≡ put eq es k w b)
      → moved eq (moved eq es k b) k b ≡ moved eq es k b
  moved_twice es k b d twice =
      rw (moved_is eq (moved eq es k b) k b, lookup-moved k es k b d, moved_is eq es k b)
      (grind (arith, twice))

pub ruleset ends = (put_back_twice, put_front_twice, without-put, moved_twice, IsEntries-moved)

pub ruleset lookups = (lookup-moved, lookup-put_same, lookup_entry-put_other, lookup-without_same)

pub ruleset lengths = (length-put_absent, length-put_there, length-without_absent, length-without_there)

pub ruleset keys = (stored_key-put, stored_key-equal)

pub ruleset afterwards = (ends, lookups, lengths, length-moved, keys, lookup_entry-without_other, puts)
