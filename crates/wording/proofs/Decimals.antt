-- The fewest digits that hold a number, as `io` puts them, are its digits with no zero in front: by induction on how many there are.
use Prim.Native.Nat.{ℕ, zero, suc, ◌+◌, ◌-◌, ◌*◌, ◌/◌, ◌%◌, ◌^◌, ◌≤◌, ◌<◌}
use mathlib.Core.Path.{◌≡◌, refl, ap}
use mathlib.Core.List.{List, [], ◌∷◌, ◌++◌}
use native.Mathlib.Omega.{arith}
use native.Mathlib.Nat.{pow-suc, pow-le-pow_right}
use lib.Dec.{lit<}
use borrow.Author.Tests.{lt-ltb, le-ltb}
use Rattle.io.specs.Digits.{last_digits, hex_digit_ascii, IsDigitCount}
use Rattle.wording.specs.Number.{digits_within, decimal_of}

-- the last digit of a number
last_digit : (n : ℕ) → hex_digit_ascii (n % 10) ≡ 48 + n % 10
last_digit n = rw (lt-ltb (n % 10) 10 (omega arith))

-- a number of k + 1 digits and more: its tenth has one less
fewer : (k n : ℕ) → n < 10 ^ suc k → n / 10 < 10 ^ k
fewer k n h =
    let p : 10 ^ suc k ≡ 10 ^ k * 10 = pow-suc 10 k in
    omega (arith, p)

fewest : (places k n : ℕ) → suc k ≤ places → n < 10 ^ suc k → (1 < suc k → 10 ^ k ≤ n) → last_digits 10 (suc k) n ≡ digits_within places n
unfolding digits_within
fewest zero k n h l f = absurd (omega arith)
fewest (suc places) zero n h l f =
    let p : 10 ^ suc 0 ≡ 10 = refl in
    let small : n < 10 = omega (arith, p) in
    let same : n % 10 ≡ n = omega arith in
    rw (last_digit n, same, lt-ltb n 10 small)
fewest (suc places) (suc k) n h l f =
    let e : 10 ^ suc k ≡ 10 ^ k * 10 = pow-suc 10 k in
    let large : 10 ^ suc k ≤ n = f (omega arith) in
    let two : 10 ≤ n = omega (arith, large, pow-le-pow_right {n = 10} (lit< tt) {i = 1} {j = suc k} (omega arith)) in
    rw (le-ltb n 10 two, last_digit n)
    (ap (λ (s : List ℕ). s ++ ((48 + n % 10) ∷ [])) (fewest places k (n / 10) (omega arith) (fewer (suc k) n l) (λ more. omega (arith, e, large))))

-- a number of 64 bits has at most 20 digits
within : (k n : ℕ) → (1 < suc k → 10 ^ k ≤ n) → n < 18446744073709551616 → suc k ≤ 20
within k n f h =
    let no_more : 20 ≤ k → ⊥ = λ more. omega (arith, f (omega arith), pow-le-pow_right {n = 10} (lit< tt) {i = 20} {j = k} more) in
    omega (arith, no_more)

pub decimal : (k n : ℕ) → IsDigitCount 10 1 n k → n < 18446744073709551616 → last_digits 10 k n ≡ decimal_of n
decimal zero n f h = absurd (omega (arith, f.0))
decimal (suc k) n f h =
    let one : suc k - 1 ≡ k = omega arith in
    let first : 1 < suc k → 10 ^ k ≤ n = λ more. rw one at (f.2 more) in
    fewest 20 k n (within k n first h) f.1 first
