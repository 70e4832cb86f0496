-- Quotes doubled byte by byte, as the loop goes.
use Prim.Native.Nat.{ℕ, ◌+◌, ◌≤◌, ◌<◌}
use mathlib.Core.Path.{◌≡◌, refl, sym, ap}
use mathlib.Core.List.{List, [], ◌∷◌, ◌++◌}
use mathlib.Core.Bool.{Bool, true, false, cond}
use native.Mathlib.Numerals.{add-one}
use lib.ListN.{length, get_or, take}
use lib.Seq.{take-suc, take_all}
use lib.Dec.{eqb}
use Rattle.adjustment_rows.specs.Fields.{doubled}

-- a text behind another
both_doubled : (s t : List ℕ) → doubled (s ++ t) ≡ doubled s ++ doubled t
unfolding doubled
both_doubled [] t = refl
both_doubled (b ∷ s) t = by (eqb b 34) (both_doubled s t)
  where
    by : (quote : Bool) → doubled (s ++ t) ≡ doubled s ++ doubled t → cond quote (34 ∷ 34 ∷ doubled (s ++ t)) (b ∷ doubled (s ++ t)) ≡ cond quote (34 ∷ 34 ∷ doubled s) (b ∷ doubled s) ++ doubled t
    by true e = ap (λ (l : List ℕ). 34 ∷ 34 ∷ l) e
    by false e = ap (λ (l : List ℕ). b ∷ l) e

-- one byte more
pub one_doubled : (s : List ℕ) (i : ℕ) → i < length s → doubled (take i s) ++ doubled (get_or s i 0 ∷ []) ≡ doubled (take (i + 1) s)
one_doubled s i h = rw (add-one, take-suc s i 0) (sym (both_doubled (take i s) (get_or s i 0 ∷ [])))

-- all bytes
pub all_doubled : (s : List ℕ) (i : ℕ) → length s ≤ i → doubled (take i s) ≡ doubled s
all_doubled s i h = ap doubled (take_all i s h)
