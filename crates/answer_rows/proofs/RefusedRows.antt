-- Three numbers put in front of zeros are those, and zeros.
use Prim.Native.Nat.{ℕ, zero, suc, ◌-◌, ◌≤◌}
use mathlib.Core.Path.{◌≡◌, ap}
use mathlib.Core.List.{◌∷◌}
use native.Mathlib.Omega.{arith}
use lib.ListN.{replicate, set}

pub three_in_front : (n a b c : ℕ) → 3 ≤ n → set (set (set (replicate n 0) 0 a) 1 b) 2 c ≡ a ∷ b ∷ c ∷ replicate (n - 3) 0
three_in_front zero a b c h = absurd (omega arith)
three_in_front (suc zero) a b c h = absurd (omega arith)
three_in_front (suc (suc zero)) a b c h = absurd (omega arith)
three_in_front (suc (suc (suc n))) a b c h =
    let left : n ≡ suc (suc (suc n)) - 3 = omega arith in
    ap (λ (k : ℕ). a ∷ b ∷ c ∷ replicate k 0) left
