-- Laws of the leading zeros: that they are those taken from the front, and which bytes decide their count.
use Prim.Native.Nat.{ℕ, suc, ◌≤◌, ◌<◌}
use mathlib.Core.Path.{◌≡◌, refl, ap, ◌∙◌}
use mathlib.Core.List.{List, [], ◌∷◌}
use mathlib.Core.Bool.{Bool, true, false, cond}
use native.Mathlib.Numerals.{one-add}
use Rattle.std.specs.Prelude.{nat_eq}
use Rattle.std.specs.List.{take_while, prefix_len}
use Rattle.std.proofs.lemmas.List.Folds.{length-prefix_len}
use native.Mathlib.Omega.{arith}
use lib.ListN.{length, get_or}
use lib.Dec.{eqb}
use Rattle.pan.specs.CardField.{leading_zeros}
use Rattle.pan.proofs.Tests.{by_test}

-- they are the zeros that are taken from the front
counted : (s : List ℕ) → prefix_len (λ b. nat_eq b 48) s ≡ leading_zeros s
unfolding leading_zeros
counted [] = refl
counted (b ∷ s) = ap (λ n. cond (eqb b 48) n 0) (one-add (prefix_len (λ c. nat_eq c 48) s) ∙ ap suc (counted s))

pub taken : (s : List ℕ) → length (take_while (λ b. nat_eq b 48) s) ≡ leading_zeros s
taken s = length-prefix_len (λ b. nat_eq b 48) s ∙ counted s

-- there are no more zeros than bytes
pub within : (s : List ℕ) → leading_zeros s ≤ length s
unfolding leading_zeros
within [] = omega arith
within (b ∷ s) = one (eqb b 48) (leading_zeros s) (within s)
  where
    one : (p : Bool) (n : ℕ) → n ≤ length s → cond p (suc n) 0 ≤ suc (length s)
    one true n h = omega arith
    one false n h = omega arith

-- the bytes up to the first that is no zero decide the count
pub told_by_front : (s t : List ℕ) → length s ≡ length t →
    ((i : ℕ) → i < length s → i ≤ leading_zeros s → get_or s i 0 ≡ get_or t i 0) → leading_zeros s ≡ leading_zeros t
unfolding leading_zeros
told_by_front [] [] l h = refl
told_by_front [] (c ∷ t) l h = absurd (omega arith)
told_by_front (b ∷ s) [] l h = absurd (omega arith)
told_by_front (b ∷ s) (c ∷ t) l h =
    rw (← h 0 (omega arith) (omega arith))
    (by_test (eqb b 48)
    (λ e. rw e (ap suc (told_by_front s t (omega arith) (λ i g k. h (suc i) (omega arith) (rw e (omega arith))))))
    (λ e. rw e))
