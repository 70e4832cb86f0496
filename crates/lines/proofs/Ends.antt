-- Laws of a piece's last byte: where it stands, and that a record with its CR comes apart again.
use Prim.Native.Nat.{ℕ, suc, ◌-◌}
use mathlib.Core.Path.{◌≡◌, refl, sym, ◌∙◌, ap}
use mathlib.Core.List.{List, [], ◌∷◌, ◌++◌}
use mathlib.Core.Bool.{true, false≢true}
use native.Mathlib.Omega.{arith}
use lib.ListN.{length, take}
use lib.Dec.{eqb}
use borrow.Author.Tests.{eqb-true}
use Rattle.std.specs.Prelude.{Some, nat_eq, slice_get}
use Rattle.std.specs.Option.{option_eq}
use Rattle.lines.specs.Lines.{cr, with_cr, ends_in_cr, without_last}

one_less : (n : ℕ) → n ≡ suc n - 1
one_less n = omega arith

-- the last byte, where there is one, is the one to test
pub last_byte : (s : List ℕ) → option_eq nat_eq (slice_get s (length s - 1)) (Some cr) ≡ ends_in_cr s
unfolding ends_in_cr
last_byte [] = refl
last_byte (b ∷ s) = ap (λ (n : ℕ). option_eq nat_eq (slice_get (b ∷ s) n) (Some cr)) (sym (one_less (length s))) ∙ ends b s
  where
    ends : (b : ℕ) (s : List ℕ) → option_eq nat_eq (slice_get (b ∷ s) (length s)) (Some cr) ≡ ends_in_cr (b ∷ s)
    ends b [] = refl
    ends b (c ∷ s) = ends c s

-- all bytes but one
pub all_but_one : (s : List ℕ) → without_last s ≡ take (length s - 1) s
unfolding without_last
all_but_one [] = refl
all_but_one (b ∷ s) = but b s ∙ ap (λ (n : ℕ). take n (b ∷ s)) (one_less (length s))
  where
    but : (b : ℕ) (s : List ℕ) → without_last (b ∷ s) ≡ take (length s) (b ∷ s)
    but b [] = refl
    but b (c ∷ s) = ap (λ l. b ∷ l) (but c s)

-- a record with its CR ends in CR
pub cr_ends : (r : List ℕ) → ends_in_cr (with_cr r) ≡ true
unfolding ends_in_cr
cr_ends [] = refl
cr_ends (b ∷ []) = refl
cr_ends (b ∷ c ∷ r) = cr_ends (c ∷ r)

-- what stands before a last byte
pub before_last : (r : List ℕ) (x : ℕ) → without_last (r ++ (x ∷ [])) ≡ r
unfolding without_last
before_last [] x = refl
before_last (b ∷ []) x = refl
before_last (b ∷ c ∷ r) x = ap (λ l. b ∷ l) (before_last (c ∷ r) x)

-- a piece that ends in CR is a record with its CR
pub record_and_cr : (p : List ℕ) → ends_in_cr p ≡ true → p ≡ with_cr (without_last p)
unfolding ends_in_cr without_last
record_and_cr [] e = absurd (false≢true e)
record_and_cr (b ∷ []) e = ap (λ x. x ∷ []) (eqb-true b cr e)
record_and_cr (b ∷ c ∷ s) e = ap (λ l. b ∷ l) (record_and_cr (c ∷ s) e)
