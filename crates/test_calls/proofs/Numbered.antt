-- A table of the numbers from 1 on, each with itself as its hash, for the tests.
use Rattle.std.proofs.Common.{◌≡◌, ℕ, ◌+◌, ◌%◌, ◌<◌, ◌≤◌, [], ◌∷◌, cond, eqb, ◌⊎◌, inl, inr, refl, sym, ap}
use Rattle.std.{proofs.Common.{◌∙◌, arith}, specs.Prelude.IsPermutation}
use Rattle.std.proofs.{lemmas.Bool.{cases_eq, cases_lt, eq-eqb, ne_eqb}, Math.Nat.{mod-eq_of_lt, mod_self}}
use Rattle.std.proofs.lemmas.List.Sorted.{length_permutation, sum_by-IsPermutation}
use Rattle.hashlink_table.specs.{declared.hashed.Hashed.Hashed, Contents.{Contents, agreeing, len_of}}
use Rattle.test_calls.proofs.Agreeing.{agreeing_inserted}

-- the numbers from 1 to n - 1 were inserted, each with itself as its hash, and n is at most 501: no two of
-- them agree
pub record IsNumbered {N : Type 0} (t : Contents N) (n : ℕ) : Type 0 where
  pub count : len_of t + 1 ≡ n
  pub few : (h m : ℕ) → 500 ≤ m
      → (agreeing t h m ≡ 0) ⊎ ((agreeing t h m ≡ 1) × ((j : ℕ) × (0 < j) × (j < n) × (j % m ≡ h % m)))

pub numbered_none : {N : Type 0} (t : Contents N) → t ≡ record { nodes = []; room = 0 } → IsNumbered t 1
numbered_none {N} t is = record {
  count = ap (λ (u : Contents N). len_of u + 1) is;
  few = λ h m low. inl (ap (λ (u : Contents N). agreeing u h m) is);
}

-- two such numbers do not agree
apart : (j n m : ℕ) → 0 < j → j < n → n ≤ 500 → 500 ≤ m → j % m ≡ n % m → ⊥
apart j n m some below most low e =
    let first : j % m ≡ j = mod-eq_of_lt (omega arith) in
    elim (cases_lt n m) as (λ _. ⊥) [
      | inl h ↦ let second : n % m ≡ n = mod-eq_of_lt h in omega arith
      | inr h ↦ let whole : n ≡ m = omega arith in
          let second : n % m ≡ 0 = ap (λ k. k % m) whole ∙ mod_self m in omega arith
    ]

pub numbered_more : {N : Type 0} (t same new : Contents N) (n : ℕ) (node : N) → IsNumbered t n → n ≤ 500
    → IsPermutation t.nodes same.nodes → IsPermutation (record { hash = n; node = node } ∷ same.nodes)
    new.nodes
    → IsNumbered new (n + 1)
numbered_more {N} t same new n node numbered most moved inserted = record {
  count = omega (arith, length_permutation _ _ inserted, length_permutation _ _ moved, numbered.count);
  few = λ h m low.
      let was : agreeing same h m ≡ agreeing t h m
      = sum_by-IsPermutation (λ (k : Hashed N). cond {A = ℕ} (eqb (k.hash % m) (h % m)) 1 0) _ _ moved in
      let now = agreeing_inserted same new n node inserted h m in
      elim (cases_eq (n % m) (h % m)) as
      (λ _. (agreeing new h m ≡ 0)
      ⊎ ((agreeing new h m ≡ 1) × ((j : ℕ) × (0 < j) × (j < n + 1) × (j % m ≡ h % m)))) [
        | inl agrees ↦
            let one : cond {A = ℕ} (eqb (n % m) (h % m)) 1 0 ≡ 1 = rw (eq-eqb (n % m) (h % m) agrees) refl in
            elim (numbered.few h m low) as
            (λ _. (agreeing new h m ≡ 0)
            ⊎ ((agreeing new h m ≡ 1) × ((j : ℕ) × (0 < j) × (j < n + 1) × (j % m ≡ h % m)))) [
              | inl none ↦ inr (
                omega (arith, now, one, was, none),
                (n, omega (arith, numbered.count), omega arith, agrees),
              )
              | inr some ↦ absurd (apart some.1.0 n m some.1.1 some.1.2 most low (some.1.3 ∙ sym agrees))
            ]
        | inr differs ↦
            let zero : cond {A = ℕ} (eqb (n % m) (h % m)) 1 0
            ≡ 0 = rw (ne_eqb (n % m) (h % m) differs) refl in
            elim (numbered.few h m low) as
            (λ _. (agreeing new h m ≡ 0)
            ⊎ ((agreeing new h m ≡ 1) × ((j : ℕ) × (0 < j) × (j < n + 1) × (j % m ≡ h % m)))) [
              | inl none ↦ inl (omega (arith, now, zero, was, none))
              | inr some ↦ inr (
                omega (arith, now, zero, was, some.0),
                (some.1.0, some.1.1, omega (arith, some.1.2), some.1.3),
              )
            ]
      ];
}

-- so at most one agrees
pub numbered_few : {N : Type 0} (t : Contents N) (n h m : ℕ) → IsNumbered t n → 500 ≤ m → agreeing t h m ≤ 2
numbered_few t n h m numbered low =
    elim (numbered.few h m low) as (λ _. agreeing t h m ≤ 2)
    [ inl none ↦ omega (arith, none) | inr one ↦ omega (arith, one.0) ]
