-- Steps at the place of a key, and the steps of a map's calls at the key.
use Rattle.hashlink_core.proofs.Names.{◌≡◌, inl, inr, ℕ, zero, suc, ◌+◌, Bool, List, [], ◌∷◌, ◌++◌, length}
use Rattle.hashlink_core.proofs.Names.{None, Some, refl, sym, ap, ap₂, subst, ◌∙◌, arith, slice_get}
use Rattle.hashlink_core.proofs.Names.{option_map, lookup, lookup_entry, NonePasses, none-some, place_of}
use Rattle.hashlink_core.proofs.Names.{moved_at, set_value_at, set_key_at, key_at, value_at, RemovesMatch}
use Rattle.hashlink_core.proofs.Names.{slice_get_here, remove-place, from_part}
use Rattle.std.specs.Prelude.{Option}
use Rattle.hashlink_model.proofs.Splits.{splits, stands_from_place, place_of-here, lookup-none}
use Rattle.hashlink_model.specs.MapState.{MapState, Changes, Removes, RemovesAt, MovesAt, SetsKeyAt}
use Rattle.hashlink_model.proofs.{Splits.{lookup_entry-none, lookup_entry-here}, Finds.lookup_is}

-- ---- what the place of a key tells about lookups

module _ {K V : Type 0} (test : K → Bool) (es : List (K × V)) where
  -- if there is no place, no key passes
  pub none_passes_from_place : place_of test es ≡ None → NonePasses test es
  none_passes_from_place p =
      elim (splits test es) as (λ _. NonePasses test es) [
        | inl n ↦ n
        | inr s ↦ absurd (none-some (length s.0)
            (sym p ∙ ap (place_of test) s.3.is ∙ place_of-here test s.1 s.2 s.3.passes s.0 s.3.before))
      ]

  pub lookup-unplaced : place_of test es ≡ None → lookup test es ≡ None
  lookup-unplaced p = lookup-none test es (none_passes_from_place p)

  pub lookup_entry-unplaced : place_of test es ≡ None → lookup_entry test es ≡ None
  lookup_entry-unplaced p = lookup_entry-none test es (none_passes_from_place p)

  -- a lookup finds the entry at the key's place
  pub lookup_entry-place : (j : ℕ) → place_of test es ≡ Some j → lookup_entry test es ≡ slice_get es j
  lookup_entry-place j p =
      let s = stands_from_place test es j p in
      ap (lookup_entry test) s.3.is ∙ lookup_entry-here test s.1 s.2 s.3.passes s.0 s.3.before
      ∙ sym (slice_get_here s.0 s.1 s.2) ∙ ap (slice_get (s.0 ++ s.1 ∷ s.2)) s.4
      ∙ ap (λ zs. slice_get zs j) (sym s.3.is)

  pub lookup-place : (j : ℕ) → place_of test es ≡ Some j → lookup test es
      ≡ option_map (λ e. e.1) (slice_get es j)
  lookup-place j p = lookup_is test es ∙ ap (option_map (λ e. e.1)) (lookup_entry-place j p)

-- a value at a place is that of a pair
pub some_from_part : {K V : Type 0} (o : Option (K × V)) (v : V) → option_map (λ e. e.1) o ≡ Some v
    → (e : K × V) × (o ≡ Some e)
some_from_part None v p = absurd (cc)
some_from_part (Some e) v p = (e, refl)

-- ---- two changes in sequence

module _ {K V S : Type 0} where
  pub changes_twice : (a b c : MapState K V S) (es fs : List (K × V)) (m n : ℕ) → Changes a b es m
      → Changes b c fs n
      → Changes a c fs (m + n)
  changes_twice a b c es fs m n s t = record {
    entries = t.entries;
    spare = t.spare ∙ s.spare;
    room = t.room ∙ s.room;
    link_writes = record {
      grows = omega (arith, s.link_writes.grows, t.link_writes.grows);
      bound = omega (arith, s.link_writes.bound, t.link_writes.bound);
    };
    hasher = t.hasher ∙ s.hasher;
  }

module _ {K V S : Type 0} (old mid new : MapState K V S) (es : List (K × V)) (s : Changes old mid es 0) where
  pub then_moves : (j i b d : ℕ) → i ≡ j → b ≡ d → MovesAt mid new i b → Changes old new (moved_at es j d) 6
  then_moves j i b d here there t =
      subst (λ zs. Changes old new zs 6)
      (ap (λ zs. moved_at zs i b) s.entries ∙ ap (λ x. moved_at es x b) here ∙ ap (moved_at es j) there)
      (changes_twice old mid new es (moved_at mid.entries i b) 0 6 s t)

  pub then_sets_key : (j i : ℕ) (k : K) → i ≡ j → SetsKeyAt mid new i k
      → Changes old new (set_key_at es j k) 0
  then_sets_key j i k here t =
      subst (λ zs. Changes old new zs 0) (ap (λ zs. set_key_at zs i k) s.entries ∙ ap
      (λ x. set_key_at es x k) here)
      (changes_twice old mid new es (set_key_at mid.entries i k) 0 0 s t)

module _ {K V : Type 0} where
  pub key-set_value_at : (es : List (K × V)) (j i : ℕ) (v : V) → key_at (set_value_at es j v) i ≡ key_at es i
  key-set_value_at [] j i v = refl
  key-set_value_at (e ∷ es) zero zero v = refl
  key-set_value_at (e ∷ es) zero (suc i) v = refl
  key-set_value_at (e ∷ es) (suc j) zero v = refl
  key-set_value_at (e ∷ es) (suc j) (suc i) v = key-set_value_at es j i v

  -- a key and a value at a place are the pair there
  pub pair_from_parts : (es : List (K × V)) (j : ℕ) (k : K) (v : V) → key_at es j ≡ Some k
      → value_at es j ≡ Some v
      → slice_get es j ≡ Some (k, v)
  pair_from_parts es j k v key value =
      let e = from_part (λ (e : K × V). e.0) (slice_get es j) k key in
      let second : e.0.1 ≡ v = cc (sym (ap (option_map (λ e. e.1)) e.1) ∙ value) in
      e.1 ∙ ap₂ (λ x y. Some (x, y)) e.2 second

-- ---- at the first key that passes a test

pub removes_match : {K V S : Type 0} (test : K → Bool) (old new : MapState K V S) (j : ℕ)
    → place_of test old.entries ≡ Some j → (e : K × V) → slice_get old.entries j ≡ Some e
    → RemovesAt old new j → RemovesMatch test old new (Some e)
removes_match test old new j p e at s = record {
  answer = sym (lookup_entry-place test old.entries j p ∙ at);
  step = subst (Removes old new) (remove-place test old.entries j p) s;
}
