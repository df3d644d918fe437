-- The value of digits that are read from the front.
use Rattle.std.proofs.Common.{◌≡◌, ℕ, ◌+◌, ◌-◌, ◌*◌, ◌^◌, ◌<◌, ◌≤◌, true, false, List, length, take, get_or}
use Rattle.std.proofs.lemmas.Str.Parse.{digit_at, IsNumeralModel, numerals_by_value, tells_all_ascii_digits}
use Rattle.std.proofs.{Common.{None, Some, refl, ⊎_elim, arith, lit<, lit≤}, lemmas.Str.digit_value_digit}
use Rattle.std.specs.{Int.IsInRange, Str.all_ascii_digits, Str.Parse.{digits_value, AllDigits}}
use Rattle.std.proofs.lemmas.{Bool.{cases_Bool, cases_lt, le-ltb, lt-ltb}, Str.Parse.digits_value-take-le}
use Rattle.std.proofs.lemmas.{Int.Digits.{digits_more, digits_value_more}, List.take_all}
use Rattle.hashlink_text.specs.Lines.{value_of}

-- the first n bytes are digits, and this is their value
pub record IsValueOfFirst (digits : List ℕ) (n value : ℕ) : Type 0 where
  pub all : AllDigits 10 (take n digits)
  pub sum : value ≡ digits_value 10 (take n digits)
  pub fits : value < 2 ^ 64

-- std's relation between digits and their value
pub digits_model : IsNumeralModel (λ ds. all_ascii_digits ds ≡ true) (digits_value 10)
digits_model = numerals_by_value _ tells_all_ascii_digits

-- no digit
pub IsValueOfFirst-none : (digits : List ℕ) → IsValueOfFirst digits 0 0
IsValueOfFirst-none digits = record { all = tt; sum = refl; fits = lit< tt }

-- the value of one more digit
sum-more : (digits : List ℕ) (n value : ℕ) → n < length digits → IsValueOfFirst digits n value
    → IsInRange 48 57 (get_or digits n 0)
    → value * 10 + (get_or digits n 0 - 48) ≡ digits_value 10 (take (n + 1) digits)
sum-more digits n value at first digit =
    omega (arith, digits_value_more 10 digits n at, digit_value_digit (get_or digits n 0) digit, first.sum)

pub IsValueOfFirst-more : (digits : List ℕ) (n value : ℕ) → n < length digits → IsValueOfFirst digits n value
    → IsInRange 48 57 (get_or digits n 0) × (value * 10 + (get_or digits n 0 - 48) < 2 ^ 64)
    → IsValueOfFirst digits (n + 1) (value * 10 + (get_or digits n 0 - 48))
IsValueOfFirst-more digits n value at first one = record {
  all = digits_more 10 digits n at first.all (omega (arith, digit_value_digit (get_or digits n 0) one.0));
  sum = sum-more digits n value at first one.0;
  fits = one.1;
}

-- a text with a byte that is no digit, or with a value above the greatest u64, has no value
pub value_of-none : (digits : List ℕ) (n value : ℕ) → n < length digits → IsValueOfFirst digits n value
    → (IsInRange 48 57 (get_or digits n 0) × (value * 10 + (get_or digits n 0 - 48) < 2 ^ 64) → ⊥)
    → value_of digits ≡ None
value_of-none digits n value at first none =
    ⊎_elim (λ (e : all_ascii_digits digits ≡ true).
    let digit = digit_at digits n (digits_model.to digits e) at in
    let part = digits_value-take-le 10 digits (n + 1) (lit≤ tt) in
    let sum = sum-more digits n value at first digit in
    let above : 2 ^ 64 ≤ digits_value 10 digits =
    ⊎_elim (λ (low : digits_value 10 digits < 2 ^ 64). absurd (none (digit, omega arith)))
    (λ h. h) (cases_lt _ _) in
    rw (e, le-ltb _ _ above) refl)
    (λ (e : all_ascii_digits digits ≡ false). rw e refl)
    (cases_Bool (all_ascii_digits digits))

-- all digits
pub value_of-some : (digits : List ℕ) (n value : ℕ) → length digits ≤ n → IsValueOfFirst digits n value
    → value_of digits ≡ Some value
value_of-some digits n value end first =
    let whole : take n digits ≡ digits = take_all n digits end in
    let all = digits_model.from digits (rw whole at first.all) in
    let sum : value ≡ digits_value 10 digits = rw whole at first.sum in
    let low : digits_value 10 digits < 2 ^ 64 = omega (arith, first.fits) in
    rw (all, lt-ltb _ _ low, ← sum) refl
