-- The entries after the entry of a key moved last, and after a write to its value there, as by `to_back` and
-- by a cache's `get` and `get_mut`; the keys after an insert at the back. The comment over each lemma names
-- the goal that it closes.
use Rattle.std.proofs.Common.{◌≡◌, ℕ, Bool, true, List, [], ◌∷◌, ◌++◌, length, Option, None, Some, refl, sym}
use Rattle.std.proofs.Common.{ap, ◌∙◌, nat_eq, true≢false}
use Rattle.std.proofs.lemmas.{Bool.eqb-true, Cmp.nat_eq_equiv, List.map-append}
use Rattle.std.specs.{Cmp.{IsEquivalence, Lexicographic.bytes_decides}}
use Rattle.std.specs.Map.{IsKeyTest, keys_of, lookup, remove_entry, set_value}
use Rattle.std.specs.Prelude.{IsSome}
use Rattle.std.specs.Set.{remove_key}
use Rattle.std.specs.{String.{string_bytes, string_eq, string_eq_equiv}, declared.string.String.String}
use Rattle.hashlink_map.{proofs.LookUps.is_text-tests, specs.Texts.is_text}
use Rattle.hashlink_model.proofs.Afterwards.{moved-there}
use Rattle.hashlink_model.proofs.Finds.{stored_key-equal}
use Rattle.hashlink_model.proofs.Puts.{none_without, put_back}
use Rattle.hashlink_model.proofs.SetElements.{keys-remove_entry}
use Rattle.hashlink_model.proofs.Splits.{key_from_lookup, set_value-here}
use Rattle.hashlink_model.specs.Entries.{IsEntries, moved_match, put, stored_key, without}
use Rattle.hashlink_model.specs.{MapState.MapState, Steps.MovesMatchAndWrites}

module _ {K V : Type 0} (eq : K → K → Bool) (laws : IsEquivalence eq) (es : List (K × V)) where
  -- goal: the entries after a move to the back, as by a cache's `get`, and after a write there
  pub moved_last : (k : K) (v : V) → lookup (eq k) es ≡ Some v
      → moved_match (eq k) es (length es) ≡ remove_entry (eq k) es ++ (stored_key eq es k, v) ∷ []
  moved_last k v found = moved-there eq es k (length es) v found ∙ put_back eq es k v

  pub moved_and_written : (k : K) (v w : V) → IsEntries eq es → lookup (eq k) es ≡ Some v
      → set_value (eq k) (moved_match (eq k) es (length es)) w
      ≡ remove_entry (eq k) es ++ (stored_key eq es k, w) ∷ []
  moved_and_written k v w d found =
      ap (λ zs. set_value (eq k) zs w) (moved_last k v found)
      ∙ set_value-here (eq k) (stored_key eq es k, v) [] (stored_key-equal eq laws k es) w (without eq es k)
      (none_without eq laws es k d)

  -- goal: the keys after an insert at the back
  pub keys-put_back : (k : K) (v : V)
      → keys_of (put eq es k v (length es)) ≡ remove_key (eq k) (keys_of es) ++ stored_key eq es k ∷ []
  keys-put_back k v =
      ap keys_of (put_back eq es k v)
      ∙ map-append (λ e. e.0) (without eq es k) ((stored_key eq es k, v) ∷ [])
      ∙ ap (λ ks. ks ++ stored_key eq es k ∷ []) (keys-remove_entry (eq k) es)

module _ {K V S : Type 0} (eq : K → K → Bool) (laws : IsEquivalence eq) (test : K → Bool) where
  -- goal: a map's entries once w was written through what `to_back` lent, by the found key. The step is
  -- `c.to_back.follows.holds w`, and `(c.get_mut.follows.holds w).1.map` of a cache
  pub written_last : IsKeyTest eq test → (old new : MapState K V S) (w : V) → IsEntries eq old.entries
      → IsSome (lookup test old.entries) → MovesMatchAndWrites test old new (length old.entries) w
      → (k : K) × (test k ≡ true) × (new.entries ≡ remove_entry test old.entries ++ (k, w) ∷ [])
  written_last tells old new w d there s =
      let is = ap (λ m. m.entries) s.writes ∙ ap (λ es. set_value test es w) s.moves.entries in
      by (lookup test old.entries) refl there is
    where
      by : (o : Option V) → lookup test old.entries ≡ o → IsSome o
          → new.entries ≡ set_value test (moved_match test old.entries (length old.entries)) w
          → (k : K) × (test k ≡ true) × (new.entries ≡ remove_entry test old.entries ++ (k, w) ∷ [])
      by None found there is = absurd (true≢false (sym there))
      by (Some v) found there is =
          let k = key_from_lookup test eq tells old.entries v found in
          let stored = stored_key eq old.entries k.0 in (
            stored,
            ap (λ t. t stored) k.1 ∙ stored_key-equal eq laws k.0 old.entries,
            is ∙ ap (λ t. set_value t (moved_match t old.entries (length old.entries)) w) k.1
                ∙ moved_and_written eq laws old.entries k.0 v w d
                (ap (λ t. lookup t old.entries) (sym k.1) ∙ found)
                ∙ ap (λ t. remove_entry t old.entries ++ (stored, w) ∷ []) (sym k.1),
          )

-- goal: the same for a number, and for a text; the entries after an insert of a number at the back
module _ {V S : Type 0} (n : ℕ) where
  pub written_last-number : (old new : MapState ℕ V S) (w : V) → IsEntries nat_eq old.entries
      → IsSome (lookup (nat_eq n) old.entries)
      → MovesMatchAndWrites (nat_eq n) old new (length old.entries) w
      → new.entries ≡ remove_entry (nat_eq n) old.entries ++ (n, w) ∷ []
  written_last-number old new w d there s =
      let all = written_last nat_eq nat_eq_equiv (nat_eq n) (λ x y. nat_eq_equiv.congr n x y) old new w d
      there s in
      all.2 ∙ ap (λ k. remove_entry (nat_eq n) old.entries ++ (k, w) ∷ []) (sym (eqb-true n all.0 all.1))

module _ {V : Type 0} (n : ℕ) where
  pub put_back-number : (es : List (ℕ × V)) (w : V)
      → put nat_eq es n w (length es) ≡ remove_entry (nat_eq n) es ++ (n, w) ∷ []
  put_back-number es w =
      let stored = eqb-true n (stored_key nat_eq es n) (stored_key-equal nat_eq nat_eq_equiv n es) in
      put_back nat_eq es n w ∙ ap (λ k. remove_entry (nat_eq n) es ++ (k, w) ∷ []) (sym stored)

module _ {A V S : Type 0} (text : List ℕ) where
  pub written_last-text : (old new : MapState (String A) V S) (w : V) → IsEntries string_eq old.entries
      → IsSome (lookup (is_text text) old.entries)
      → MovesMatchAndWrites (is_text text) old new (length old.entries) w
      → (k : String A) × (string_bytes k ≡ text)
      × (new.entries ≡ remove_entry (is_text text) old.entries ++ (k, w) ∷ [])
  written_last-text old new w d there s =
      let all = written_last string_eq string_eq_equiv (is_text text) (is_text-tests text) old new w d
      there s in
      (all.0, sym ((bytes_decides text (string_bytes all.0)).0 all.1), all.2)
