-- A numbered field begins within a sale's 199 bytes, at the place before its first position. It is computed for every number.
use Prim.Native.Nat.{ℕ, ◌-◌, ◌≤◌, min}
use mathlib.Core.Path.{◌≡◌, refl}
use mathlib.Core.Bool.{Bool, true, not, ◌&&◌, ◌||◌}
use native.Mathlib.Omega.{arith}
use borrow.Author.Tests.{le-leb, leb-true, eqb-true}
use lib.Dec.{leb, eqb}
use Rattle.text.proofs.Alphabets.{both_left, both_right}
use Rattle.sale_field.specs.Field.{numbered}
use Rattle.sale_field.proofs.Below.{all_below_lem, each_below}

starts : ℕ → Bool
starts n = leb 1 (numbered n).0 && eqb ((numbered n).0 - 1) (min ((numbered n).0 - 1) (min (numbered n).1 199))

right : ℕ → Bool
right n = not (leb 1 n) || starts n

module _ (n : ℕ) (low : 1 ≤ n) (high : n ≤ 26) where
  each_right : starts n ≡ true
  unfolding all_below_lem right starts
  each_right =
      let is = each_below 27 right refl n (omega arith) in
      rw (le-leb 1 n low) at is

  pub some_place : 1 ≤ (numbered n).0
  unfolding starts
  some_place = leb-true _ _ (both_left (leb 1 (numbered n).0) _ each_right)

  pub place_is : (numbered n).0 - 1 ≡ min ((numbered n).0 - 1) (min (numbered n).1 199)
  unfolding starts
  place_is = eqb-true _ _ (both_right (leb 1 (numbered n).0) _ each_right)
