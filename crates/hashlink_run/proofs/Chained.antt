-- Chains of steps: how they grow, their parts, and what stays the same along them.
use Rattle.hashlink_run.proofs.Names.{◌≡◌, ℕ, zero, suc, ◌≤◌, ◌<◌, Bool, true, List, [], ◌∷◌, ◌++◌, take}
use Rattle.hashlink_run.proofs.Names.{drop, refl, slice_get, Some, sym, ap, ◌∙◌, subst, append-nil, arith}
use Rattle.hashlink_run.proofs.Names.{same_Some, Answered, Chain, replies_of, state_after, after}
use Rattle.std.{specs.List.AllPass, proofs.lemmas.List.Concat.flat_map-append}
use Rattle.std.proofs.lemmas.List.Elements.{All-head, All-tail}

module _ {R M : Type 0} where
  pub replies_of-more : (xs : List (Answered R M)) (x : Answered R M)
      → replies_of (xs ++ x ∷ []) ≡ replies_of xs ++ x.replies
  replies_of-more xs x =
      flat_map-append (λ a. a.replies) xs (x ∷ []) ∙ ap (λ rs. replies_of xs ++ rs) (append-nil x.replies)

  pub state_after-append : (old : M) (xs ys : List (Answered R M))
      → state_after old (xs ++ ys) ≡ state_after (state_after old xs) ys
  state_after-append old [] ys = refl
  state_after-append old (x ∷ xs) ys = state_after-append x.state xs ys

module _ {C R M : Type 0} (Step : M → C → List R → M → Type 0) where
  Chain-append : (old : M) (cs ds : List C) (xs ys : List (Answered R M)) → Chain Step old cs xs
      → Chain Step (state_after old xs) ds ys → Chain Step old (cs ++ ds) (xs ++ ys)
  Chain-append old [] ds [] ys r s = s
  Chain-append old [] ds (x ∷ xs) ys r s = absurd r
  Chain-append old (c ∷ cs) ds [] ys r s = absurd r
  Chain-append old (c ∷ cs) ds (x ∷ xs) ys r s = (r.0, Chain-append x.state cs ds xs ys r.1 s)

  -- one more command
  pub Chain-more : (old : M) (cs : List C) (xs : List (Answered R M)) (c : C) (x : Answered R M)
      → Chain Step old cs xs
      → Step (state_after old xs) c x.replies x.state → Chain Step old (cs ++ c ∷ []) (xs ++ x ∷ [])
  Chain-more old cs xs c x r s = Chain-append old cs (c ∷ []) xs (x ∷ []) r (s, tt)

  pub Chain-take : (n : ℕ) (old : M) (cs : List C) (xs : List (Answered R M)) → Chain Step old cs xs
      → Chain Step old (take n cs) (take n xs)
  Chain-take zero old cs xs r = tt
  Chain-take (suc n) old [] [] r = tt
  Chain-take (suc n) old [] (x ∷ xs) r = absurd r
  Chain-take (suc n) old (c ∷ cs) [] r = absurd r
  Chain-take (suc n) old (c ∷ cs) (x ∷ xs) r = (r.0, Chain-take n x.state cs xs r.1)

  -- the step at an index
  pub step_at : (j : ℕ) (old : M) (cs : List C) (xs : List (Answered R M)) → Chain Step old cs xs
      → (a : Answered R M) → slice_get xs j ≡ Some a
      → (c : C) × (slice_get cs j ≡ Some c) × Step (after old xs j) c a.replies a.state
  step_at j old cs [] r a is = cc
  step_at j old [] (x ∷ xs) r a is = absurd r
  step_at zero old (c ∷ cs) (x ∷ xs) r a is =
      subst (λ y. (d : C) × (slice_get (c ∷ cs) 0 ≡ Some d) × Step old d y.replies y.state)
      (same_Some _ _ is) (c, refl, r.0)
  step_at (suc j) old (c ∷ cs) (x ∷ xs) r a is = step_at j x.state cs xs r.1 a is

  pub step_of : (j : ℕ) (old : M) (cs : List C) (xs : List (Answered R M)) → Chain Step old cs xs
      → (c : C) (a : Answered R M) → slice_get cs j ≡ Some c → slice_get xs j ≡ Some a
      → Step (after old xs j) c a.replies a.state
  step_of j old cs xs r c a at is =
      let s = step_at j old cs xs r a is in
      subst (λ d. Step (after old xs j) d a.replies a.state) (same_Some _ _ (sym s.1 ∙ at)) s.2

  -- if each step whose command passes a test keeps P, a chain of such steps keeps it
  module _ (P : M → Type 0) (test : C → Bool)
      (keeps : (old new : M) (c : C) (rs : List R) → test c ≡ true → Step old c rs new → P old → P new) where
    pub Chain-keeps : (old : M) (cs : List C) (xs : List (Answered R M)) → Chain Step old cs xs
        → AllPass test cs → P old → P (state_after old xs)
    Chain-keeps old [] [] r all p = p
    Chain-keeps old [] (x ∷ xs) r all p = absurd r
    Chain-keeps old (c ∷ cs) [] r all p = absurd r
    Chain-keeps old (c ∷ cs) (x ∷ xs) r all p =
        Chain-keeps x.state cs xs r.1 (All-tail (λ d. test d ≡ true) c cs all)
        (keeps old x.state c x.replies (All-head (λ d. test d ≡ true) c cs all) r.0 p)

    -- from index i to index j
    pub Chain-between : (i j : ℕ) (old : M) (cs : List C) (xs : List (Answered R M)) → Chain Step old cs xs
        → i ≤ j → AllPass test (drop i (take j cs)) → P (after old xs i) → P (after old xs j)
    Chain-between zero j old cs xs r le all p =
        Chain-keeps old (take j cs) (take j xs) (Chain-take j old cs xs r) all p
    Chain-between (suc i) zero old cs xs r le all p = absurd (omega arith)
    Chain-between (suc i) (suc j) old cs [] r le all p = p
    Chain-between (suc i) (suc j) old [] (x ∷ xs) r le all p = absurd r
    Chain-between (suc i) (suc j) old (c ∷ cs) (x ∷ xs) r le all p =
        Chain-between i j x.state cs xs r.1 (omega arith) all p

    -- the same from the state after the command at index i
    pub Chain-from : (i j : ℕ) (old : M) (cs : List C) (xs : List (Answered R M)) → Chain Step old cs xs
        → (a : Answered R M) → slice_get xs i ≡ Some a → i < j → AllPass test (drop i (take j cs))
        → P a.state → P (after old xs j)
    Chain-from i zero old cs xs r a is less all p = absurd (omega arith)
    Chain-from i (suc j) old cs [] r a is less all p = cc
    Chain-from i (suc j) old [] (x ∷ xs) r a is less all p = absurd r
    Chain-from zero (suc j) old (c ∷ cs) (x ∷ xs) r a is less all p =
        Chain-keeps x.state (take j cs) (take j xs) (Chain-take j x.state cs xs r.1)
        (All-tail (λ d. test d ≡ true) c (take j cs) all) (subst (λ y. P y.state) (sym (same_Some _ _ is)) p)
    Chain-from (suc i) (suc j) old (c ∷ cs) (x ∷ xs) r a is less all p =
        Chain-from i j x.state cs xs r.1 a is (omega arith) all p
