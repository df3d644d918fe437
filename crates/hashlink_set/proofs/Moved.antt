-- A move of an element, as the map's move of a key with the value `()`.
use Rattle.std.proofs.Common.{◌≡◌, ℕ, Bool, List, [], ◌∷◌, Some, refl, sym, ap, subst, ◌∙◌, arith}
use Rattle.std.specs.Map.{lookup, set_value}
use Rattle.hashlink_model.specs.{Entries.moved_match, MapState.Changes, Sets.SetState}
use Rattle.hashlink_model.specs.Steps.{MovesMatch, MovesMatchAndWrites}

-- writing the value `()` changes nothing
set_value-nothing : {T : Type 0} (test : T → Bool) (es : List (T × Unit {0})) → set_value test es tt ≡ es
set_value-nothing test [] = refl
set_value-nothing test (e ∷ es) = grind (arith, set_value-nothing test es)

module _ {T S : Type 0} (test : T → Bool) (old new : SetState T S) (b : ℕ) where
  pub moved-element : Some tt ≡ lookup test old.entries → MovesMatchAndWrites test old new b tt
      → MovesMatch test old new b (Some tt)
  moved-element found s =
      let same : new ≡ s.between =
      s.writes ∙ ap (λ es. record s.between { entries = es }) (set_value-nothing test s.between.entries) in
      record {
        answer = found;
        step = subst (λ m. Changes old m (moved_match test old.entries b) 6)
            (sym same) s.moves;
      }
