-- Where the search for a byte that a part may not hold stops: inside the part.
use Prim.Native.Nat.{ℕ, suc, ◌+◌, ◌<◌}
use mathlib.Core.Path.{◌≡◌}
use mathlib.Core.List.{List, [], ◌∷◌}
use mathlib.Core.Bool.{Bool, true, false, cond}
use native.Mathlib.Omega.{arith}
use lib.ListN.{length}
use Rattle.std.specs.Prelude.{Option, Some}
use Rattle.text.specs.declared.alphabet.Alphabet.{Alphabet}
use Rattle.text.specs.Alphabet.{allowed, first_stray}

-- the place that is found, counted on from i, is one of the part
pub stray_below : (a : Alphabet) (i : ℕ) (s : List ℕ) (k : ℕ) → first_stray a i s ≡ Some k → k < i + length s
unfolding first_stray
stray_below a i [] k e =
    let z : ◌≡◌ {A = ℕ} 0 1 = cc in
    absurd (omega arith)
stray_below a i (b ∷ s) k e = at (allowed a b) (stray_below a (suc i) s k) e
  where
    at : (p : Bool) {rest : Option ℕ} → (rest ≡ Some k → k < suc i + length s) → cond p rest (Some i) ≡ Some k → k < i + length (b ∷ s)
    at true further e = omega (arith, further e)
    at false further e =
        let same : i ≡ k = cc in
        omega arith
