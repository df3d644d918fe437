-- How many nodes agree with a hash, after each insert of a node.
use Rattle.std.{proofs.Common.{◌≡◌, ℕ, ◌+◌, ◌%◌, ◌∷◌, cond, eqb, ◌∙◌, arith}, specs.Prelude.IsPermutation}
use Rattle.std.proofs.lemmas.List.{Sorted.sum_by-IsPermutation, Sums.sum_by-cons}
use Rattle.hashlink_table.specs.{declared.hashed.Hashed.Hashed, Contents.{Contents, agreeing}}

-- one more node agrees, or none
pub agreeing_inserted : {N : Type 0} (old new : Contents N) (hash : ℕ) (node : N)
    → IsPermutation (record { hash = hash; node = node } ∷ old.nodes) new.nodes → (h m : ℕ)
    → agreeing new h m ≡ agreeing old h m + cond (eqb (hash % m) (h % m)) 1 0
agreeing_inserted {N} old new hash node inserted h m =
    let agrees = λ (k : Hashed N). cond {A = ℕ} (eqb (k.hash % m) (h % m)) 1 0 in
    let same = sum_by-IsPermutation agrees _ _ inserted in
    let more = sum_by-cons agrees (record { hash = hash; node = node }) old.nodes in
    same ∙ more ∙ omega arith
