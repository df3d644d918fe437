-- Chains of steps: each command has its replies, and leads to a state.
use Rattle.std.specs.{Prelude.{◌≡◌, ◌⊎◌, ℕ, List, [], ◌∷◌, take}, List.flat_map}

-- the replies to a command, and the state that it leads to
pub record Answered (R M : Type 0) : Type 0 where
  pub replies : List R
  pub state : M

module _ {R M : Type 0} where
  -- the replies, joined
  abbrev pub replies_of : List (Answered R M) → List R
  replies_of answers = flat_map (λ a. a.replies) answers

  -- the state at the end, starting at `old`
  abbrev pub state_after : M → List (Answered R M) → M
  state_after old [] = old
  state_after old (a ∷ answers) = state_after a.state answers

  -- the state after the first n commands
  abbrev pub after : M → List (Answered R M) → ℕ → M
  after old answers n = state_after old (take n answers)

module _ {C R M : Type 0} (Step : M → C → List R → M → Type 0) where
  -- starting at old, the commands may have, in order, the replies and the states of `answers`
  abbrev pub Chain : M → List C → List (Answered R M) → Type 0
  Chain old [] [] = Unit {0}
  Chain old (command ∷ commands) (a ∷ answers) = Step old command a.replies a.state
      × Chain a.state commands answers
  Chain old [] (a ∷ answers) = ⊥
  Chain old (command ∷ commands) [] = ⊥

  -- the same with all replies joined, and with the state at the end
  pub record Chained (old : M) (commands : List C) (replies : List R) (new : M) : Type 0 where
    pub answers : List (Answered R M)
    pub chain : Chain old commands answers
    pub joined : replies ≡ replies_of answers
    pub reached : new ≡ state_after old answers

  -- starting at old, the commands may be answered, in order, so that `These` holds for one of them and p
  abbrev pub ComesTo : {P : Type 0} → (M → C → P → Type 0) → M → List C → P → Type 0
  ComesTo These old [] p = ⊥
  ComesTo These old (command ∷ commands) p =
      These old command p
      ⊎ ((a : Answered R M) × Step old command a.replies a.state × ComesTo These a.state commands p)
