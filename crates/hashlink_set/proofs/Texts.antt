-- Sets of texts: a call for one text changes nothing for the other texts.
use Rattle.std.{proofs.Common.{◌≡◌, ◌≢◌, ℕ, Bool, true, false, List, sym, ◌∙◌, ⊎_elim}, specs.List.list_any}
use Rattle.std.specs.{Cmp.Lexicographic.bytes_decides, Map.{AreApart, IsKeyTest}, Set.KeepsOthers}
use Rattle.std.specs.{Str.bytes_eq, String.{string_bytes, string_eq}, declared.string.String.String}
use Rattle.std.proofs.lemmas.{Bool.cases_Bool, Cmp.nat_list_eq_equiv}

of_another : {T : Type 0} (eq : T → T → Bool) (test : T → Bool) (old new : List T)
    → KeepsOthers eq test old new
    → (other : T → Bool) → IsKeyTest eq other → AreApart test other → list_any other new ≡ list_any other old
unfolding KeepsOthers
of_another eq test old new kept = kept

-- a text that equals one of two unequal texts differs from the other
unequal_to : (asked removed text : List ℕ) → bytes_eq asked removed ≡ false → bytes_eq removed text ≡ true
    → bytes_eq asked text ≡ false
unequal_to asked removed text differ same =
    let laws = nat_list_eq_equiv in
    laws.symm asked text ∙ sym (laws.congr removed text asked same) ∙ laws.symm removed asked ∙ differ

-- goal: after a call for one text, another text is found as before
pub another_text : {A : Type 0} (removed asked : List ℕ) (old new : List (String A))
    → KeepsOthers string_eq (λ text. bytes_eq removed (string_bytes text)) old new → removed ≢ asked
    → list_any (λ text. bytes_eq asked (string_bytes text)) new
    ≡ list_any (λ text. bytes_eq asked (string_bytes text)) old
another_text removed asked old new kept apart =
    ⊎_elim (λ same. absurd (apart (sym ((bytes_decides asked removed).0 same))))
    (λ differ. of_another string_eq (λ text. bytes_eq removed (string_bytes text)) old new kept
    (λ text. bytes_eq asked (string_bytes text))
    (λ x y. nat_list_eq_equiv.congr asked (string_bytes x) (string_bytes y))
    (λ text. unequal_to asked removed (string_bytes text) differ))
    (cases_Bool (bytes_eq asked removed))
