-- A name of two bytes, byte by byte, as a `match` on it tests them.
use Prim.Native.Nat.{ℕ, suc}
use mathlib.Core.Path.{◌≡◌, refl}
use mathlib.Core.List.{List, [], ◌∷◌}
use mathlib.Core.Bool.{Bool, true, false, ◌&&◌}
use native.Mathlib.Omega.{arith}
use lib.Dec.{eqb}
use lib.ListN.{length, get_or}
use borrow.Author.Tests.{ne_eqb}
use Rattle.text.specs.Literal.{same_bytes}

pub two_bytes : (x y : ℕ) (p : List ℕ) → same_bytes p (x ∷ y ∷ []) ≡ eqb (length p) 2 && (eqb (get_or p 0 0) x && eqb (get_or p 1 0) y)
unfolding same_bytes
two_bytes x y [] = refl
two_bytes x y (a ∷ []) = none (eqb a x)
  where
    none : (s : Bool) → s && false ≡ false
    none true = refl
    none false = refl
two_bytes x y (a ∷ b ∷ []) = both (eqb a x) (eqb b y)
  where
    both : (s t : Bool) → s && (t && true) ≡ s && t
    both true true = refl
    both true false = refl
    both false t = refl
two_bytes x y (a ∷ b ∷ c ∷ p) =
    let longer : eqb (suc (suc (suc (length p)))) 2 ≡ false = ne_eqb (suc (suc (suc (length p)))) 2 (λ e. omega arith) in
    rw longer (none (eqb a x) (eqb b y))
  where
    none : (s t : Bool) → s && (t && false) ≡ false
    none true true = refl
    none true false = refl
    none false t = refl
