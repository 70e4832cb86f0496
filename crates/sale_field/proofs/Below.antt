-- A test that holds of every number below a bound, by computation, holds of each.
use Prim.Native.Nat.{ℕ, zero, suc, ◌<◌}
use mathlib.Core.Path.{◌≡◌, ◌∙◌, ap}
use mathlib.Core.Bool.{Bool, true, ◌&&◌}
use native.Mathlib.Omega.{arith}
use lib.Dec.{eqb}
use borrow.Author.Tests.{eqb-true, eqb-false}
use Rattle.text.proofs.Alphabets.{both_left, both_right}
use Rattle.pan.proofs.Tests.{by_test}

unfoldable pub all_below_lem : ℕ → (ℕ → Bool) → Bool
all_below_lem zero p = true
all_below_lem (suc k) p = p k && all_below_lem k p

pub each_below : (k : ℕ) (p : ℕ → Bool) → all_below_lem k p ≡ true → (i : ℕ) → i < k → p i ≡ true
unfolding all_below_lem
each_below zero p e i h = absurd (omega arith)
each_below (suc k) p e i h =
    by_test (eqb i k)
    (λ same. ap p (eqb-true i k same) ∙ both_left (p k) (all_below_lem k p) e)
    (λ other. each_below k p (both_right (p k) (all_below_lem k p) e) i (omega (arith, eqb-false i k other)))
