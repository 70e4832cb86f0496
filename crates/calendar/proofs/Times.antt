-- What a number HHMMSS is, where it is a time.
use Prim.Native.Nat.{ℕ, ◌/◌, ◌%◌, ◌≤◌, ◌<◌}
use mathlib.Core.Path.{◌≡◌}
use mathlib.Core.Bool.{true, ◌&&◌}
use native.Mathlib.Omega.{arith}
use lib.Dec.{ltb}
use borrow.Author.Tests.{ltb-true}
use Rattle.text.proofs.Alphabets.{both_left, both_right}
use Rattle.calendar.specs.Time.{is_time}

-- "minutes and seconds below 60"
pub real_time : (n : ℕ) → is_time n ≡ true → (n < 240000) × (n / 100 % 100 < 60) × (n % 100 < 60)
unfolding is_time
real_time n e =
    let hours = ltb n 240000 in
    let minutes = ltb (n / 100 % 100) 60 in
    let seconds = ltb (n % 100) 60 in
    let two = both_left (hours && minutes) seconds e in
    (ltb-true _ _ (both_left hours minutes two), ltb-true _ _ (both_right hours minutes two), ltb-true _ _ (both_right (hours && minutes) seconds e))

-- "000000 to 235959"
pub time_range : (n : ℕ) → is_time n ≡ true → n ≤ 235959
time_range n e = let r = real_time n e in omega arith
