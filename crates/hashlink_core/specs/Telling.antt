-- A hash and a test, in place of a key.
use Rattle.std.specs.{Prelude.{◌≡◌, ℕ, Bool, List, Contains}, Borrow.Bor, Fn.Shared}

-- the key has the hash; and the test, which may be called on each key of the list, distinguishes the keys
-- equal to this one from all others
pub record Tells {K F : Type 0} (calls : Shared F (Bor K × Unit {0}) Bool) (eq : K → K → Bool) (hash : K → ℕ)
    (held : List K) (test : F) (asked : ℕ) (k : K) : Type 0 where
  pub hashed : asked ≡ hash k
  pub callable : (x : Bor K) → Contains held x.now → calls.pre test (x, tt)
  pub answers : (x : Bor K) (answer : Bool) → Contains held x.now → calls.post test (x, tt) answer
      → answer ≡ eq x.now k
