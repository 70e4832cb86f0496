-- A part that is compared with a text of one byte: it is that text where it is one byte and that byte, and no such text where it is of another length.
use Prim.Native.Nat.{ℕ, ◌≤◌, ◌<◌}
use mathlib.Core.Path.{◌≡◌, refl}
use mathlib.Core.List.{List, [], ◌∷◌}
use mathlib.Core.Bool.{Bool, true, false, ◌&&◌}
use native.Mathlib.Omega.{arith}
use lib.ListN.{length, get_or}
use lib.Dec.{eqb}
use Rattle.text.specs.Literal.{same_bytes}

and_true : (p : Bool) → p && true ≡ p
and_true true = refl
and_true false = refl

and_false : (p : Bool) → p && false ≡ false
and_false true = refl
and_false false = refl

pub same_byte : (s : List ℕ) (b : ℕ) → 1 ≤ length s → length s < 2 → same_bytes s (b ∷ []) ≡ eqb (get_or s 0 0) b
unfolding same_bytes
same_byte [] b h k = absurd (omega arith)
same_byte (a ∷ []) b h k = and_true (eqb a b)
same_byte (a ∷ c ∷ s) b h k = absurd (omega arith)

pub no_byte : (s : List ℕ) (b : ℕ) → length s < 1 → same_bytes s (b ∷ []) ≡ false
unfolding same_bytes
no_byte [] b h = refl
no_byte (a ∷ s) b h = absurd (omega arith)

pub more_bytes : (s : List ℕ) (b : ℕ) → 2 ≤ length s → same_bytes s (b ∷ []) ≡ false
unfolding same_bytes
more_bytes [] b h = absurd (omega arith)
more_bytes (a ∷ []) b h = absurd (omega arith)
more_bytes (a ∷ c ∷ s) b h = and_false (eqb a b)
