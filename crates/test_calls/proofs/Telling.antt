-- Nodes that determine their hashes, as a table changes.
use Rattle.std.proofs.Common.{◌≡◌, ℕ, suc, zero, [], ◌∷◌, sym, ap, ◌∙◌, arith}
use Rattle.std.specs.Prelude.{IsPermutation, Contains}
use Rattle.std.proofs.lemmas.List.Sorted.{Contains-permutation, IsPermutation-sym}
use Rattle.hashlink_table.specs.{declared.hashed.Hashed.Hashed, Contents.{Contents, len_of}}
use Rattle.test_calls.specs.Telling.{Tells}

module _ {N : Type 0} (told : N → ℕ) where
  pub tells-none : (t : Contents N) → t ≡ record { nodes = []; room = 0 } → Tells told t
  tells-none t none hash node there =
      absurd (omega (arith, there.1, ap (λ (t : Contents N). len_of t) none))

  module _ (old new : Contents N) where
    pub tells-same : IsPermutation old.nodes new.nodes → Tells told old → Tells told new
    tells-same same tells hash node there =
        tells hash node (Contains-permutation _ _ _ (IsPermutation-sym _ _ same) there)

    module _ (k : Hashed N) where
      pub tells-more : IsPermutation (k ∷ old.nodes) new.nodes → k.hash ≡ told k.node → Tells told old
          → Tells told new
      tells-more came is tells hash node there =
          cases (Contains-permutation _ _ _ (IsPermutation-sym _ _ came) there)
        where
          cases : Contains (k ∷ old.nodes) (record { hash = hash; node = node }) → hash ≡ told node
          cases (zero, lt, at) =
              sym (ap (λ (k : Hashed N). k.hash) at) ∙ is ∙ ap (λ (k : Hashed N). told k.node) at
          cases (suc i, lt, at) = tells hash node (i, omega arith, at)
