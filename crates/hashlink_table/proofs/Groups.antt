-- Groups of sixteen.
use Rattle.hashlink_table.proofs.Names.{◌≡◌, ℕ, zero, suc, ◌+◌, ◌-◌, ◌/◌, ◌%◌, ◌^◌, ◌<◌, ◌≤◌, ap, ◌∙◌, arith}
use Rattle.hashlink_table.proofs.Names.{pow-add, IsPowerOfTwo}

-- a power of two from 16 on is a multiple of 16
pub groups_of : (m : ℕ) → IsPowerOfTwo m → 16 ≤ m → (k : ℕ) × (m ≡ 2 ^ (k + 4))
groups_of m (zero, e) h = absurd (omega (arith, e, h))
groups_of m (suc zero, e) h = absurd (omega (arith, e, h))
groups_of m (suc (suc zero), e) h = absurd (omega (arith, e, h))
groups_of m (suc (suc (suc zero)), e) h = absurd (omega (arith, e, h))
groups_of m (suc (suc (suc (suc k))), e) h =
    let n : suc (suc (suc (suc k))) ≡ k + 4 = omega arith in (k, e ∙ ap (λ j. 2 ^ j) n)

pub whole_power : (m : ℕ) → IsPowerOfTwo m → 16 ≤ m → m % 16 ≡ 0
whole_power m power h = let g = groups_of m power h in omega (arith, g.1, pow-add 2 g.0 4)

-- the group of a bucket is among the buckets
pub group_within : (b m : ℕ) → b < m → m % 16 ≡ 0 → b - b % 16 + 16 ≤ m
group_within b m low whole = omega (arith, low, whole)

-- a cell in the group of b
pub grouped_in : (b at : ℕ) → b - b % 16 ≤ at → at < b - b % 16 + 16 → b / 16 ≡ at / 16
grouped_in b at from to = omega (arith, from, to)

pub from_base : (b at : ℕ) → b / 16 ≡ at / 16 → b - b % 16 ≤ at
from_base b at same = omega (arith, same)

pub to_base : (b at : ℕ) → b / 16 ≡ at / 16 → at < b - b % 16 + 16
to_base b at same = omega (arith, same)
