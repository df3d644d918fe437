-- Comparisons of sets, and what sets feed a hasher: only their elements count.
use Rattle.std.specs.{Prelude.{◌≡◌, Bool, true, List}, Cmp.Lexicographic.{lists_per, lists_equiv}}
use Rattle.std.specs.Cmp.{IsEquivalence, IsPartialEquivalence, on_equiv, on_per}
use Rattle.hashlink_model.specs.{Compare.{elements_eq, elements_hash_input}, Sets.{SetState, elements_of}}
use Rattle.hashlink_model.proofs.Comparisons as compared

module _ {T S : Type 0} where
  abbrev pub sets_eq : (T → T → Bool) → SetState T S → SetState T S → Bool
  sets_eq eq a b = elements_eq eq (elements_of a) (elements_of b)

  abbrev pub set_hash_input : {W : Type 0} → (T → List W) → SetState T S → List W
  set_hash_input hash s = elements_hash_input hash (elements_of s)

  pub sets_equiv : {eq : T → T → Bool} → IsEquivalence eq → IsEquivalence (sets_eq eq)
  sets_equiv a = on_equiv elements_of (lists_equiv a)

  pub sets_per : {eq : T → T → Bool} → IsPartialEquivalence eq → IsPartialEquivalence (sets_eq eq)
  sets_per a = on_per elements_of (lists_per a)

  pub sets_alike : {W : Type 0} {eq : T → T → Bool} {hash : T → List W}
      → ((x y : T) → eq x y ≡ true → hash x ≡ hash y)
      → (a b : SetState T S) → sets_eq eq a b ≡ true
      → set_hash_input hash a ≡ set_hash_input hash b
  sets_alike {W} {eq} {hash} alike a b = compared.elements_alike eq hash alike (elements_of a) (elements_of b)
