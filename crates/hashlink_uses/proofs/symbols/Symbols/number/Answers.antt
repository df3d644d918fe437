use Rattle.std.proofs.Common.{String, inl, inr, is_some, map, option_map, slice_get, string_bytes, ℕ}
use Rattle.std.{specs.String.string_eq, proofs.lemmas.List.{length-map, map_push}}
use Rattle.std.proofs.lemmas.Option.{slice_get-map}
use Rattle.hashlink.proofs.CallerLemmas.{is_some-lookup_text, place-from_text, slice_get-push}
use Rattle.hashlink.{specs.Texts.is_text, proofs.CallerLemmas.slice_get-pushed}
use Rattle.hashlink_uses.proofs.Common.{List, None, Some, [], ap, entries_of, keys_of, length, lookup, refl}
use Rattle.hashlink_uses.{proofs.Common.{subst, sym, ◌++◌, ◌∙◌, ◌∷◌, ◌≡◌}, specs.Numbered.AreNumbered}
use Rattle.hashlink_uses.proofs.symbols.Symbols.number.Goals as goal

module _ {A : Type 0} (text : List ℕ) (es : List (String A × ℕ)) (numbered : AreNumbered es) where
  named : (n : ℕ) → lookup (is_text text) es ≡ Some n
      → slice_get (map string_bytes (keys_of es)) n ≡ Some text
  named n found =
      let at = place-from_text text es n found in
      ap (slice_get (map string_bytes (keys_of es))) (numbered at.0 (at.1, n) at.2)
      ∙ slice_get-map string_bytes (keys_of es) at.0 ∙ ap (option_map string_bytes)
      (slice_get-map (λ e. e.0) es at.0 ∙ ap (option_map (λ e. e.0)) at.2) ∙ ap Some at.3

  -- what a new name leaves: numbers, the name at its number, and the names
  added : (k : String A) (n : ℕ) (new : List (String A × ℕ)) → string_bytes k ≡ text
      → None ≡ lookup (is_text text) es → n ≡ length es
      → (lookup (string_eq k) es ≡ None → new ≡ es ++ (k, n) ∷ [])
      → AreNumbered new × (slice_get (map string_bytes (keys_of new)) n ≡ Some text)
      × (map string_bytes (keys_of new) ≡ map string_bytes (keys_of es) ++ text ∷ [])
  added k n new name none len adds =
      let all = map string_bytes (keys_of es) in
      let is : new ≡ es ++ (k, n) ∷ [] = adds (ap (λ t. lookup (is_text t) es) name ∙ sym none) in
      let names : map string_bytes (keys_of new) ≡ all ++ text ∷ []
      = ap (λ zs. map string_bytes (keys_of zs)) is ∙ ap (map string_bytes) (map_push (λ e. e.0) es (k, n))
      ∙ map_push string_bytes (keys_of es) k ∙ ap (λ t. all ++ t ∷ []) name in
      let place = len ∙ sym (length-map (keys_of es) string_bytes ∙ length-map es (λ e. e.0)) in (
        λ j e at. elim (slice_get-push es (k, n) e j (subst (λ zs. slice_get zs j ≡ Some e) is at))
            [ inl old ↦ numbered j e old | inr here ↦ ap (λ e. e.1) here.1 ∙ len ∙ sym here.0 ],
        ap (λ xs. slice_get xs n) names ∙ ap (slice_get (all ++ text ∷ [])) place ∙ slice_get-pushed all text,
        names,
      )

pub returns-in-Some : goal.returns-in-Some
returns-in-Some c =
    let es = entries_of c.self.inside.numbers in
    let there = sym (is_some-lookup_text c.args.name.now es) ∙ ap is_some (sym c.in-Some.ensures.found) in
    let number = named c.args.name.now es c.self.invariant _ (sym c.in-Some.ensures.found) in
    rw (← c.self.view_is) (record { number = number; names = rw there refl; unchanged = tt })

pub invariant_of-self-2 : goal.invariant_of-self-2
invariant_of-self-2 c =
    (added c.args.name.now (entries_of c.self.inside.numbers) c.self.invariant c.in_ok-key.key _ _
    c.in_ok-key.ensures.ok c.in_default.ensures.found c.len-number.ensures.len c.in-Ok.ensures.added).0

pub returns : goal.returns
returns c =
    let es = entries_of c.self.inside.numbers in
    let new = added c.args.name.now es c.self.invariant c.in_ok-key.key _ _
    c.in_ok-key.ensures.ok c.in_default.ensures.found c.len-number.ensures.len c.in-Ok.ensures.added in
    let absent = sym (is_some-lookup_text c.args.name.now es) ∙ ap is_some (sym c.in_default.ensures.found) in
    rw (← c.self.view_is) (record { number = new.1; names = rw absent new.2; unchanged = tt })
