-- Laws of a value that stays at the top of 64 bits: behind a number that is cut off there, further digits come to the same.
use Prim.Native.Nat.{ℕ, ◌+◌, ◌*◌, ◌-◌, ◌≤◌, ◌<◌, min}
use mathlib.Core.Path.{◌≡◌, refl, sym, ap, ◌∙◌}
use mathlib.Core.List.{List, [], ◌∷◌}
use mathlib.Core.Bool.{Bool, true, false}
use native.Mathlib.Omega.{arith}
use lib.ListN.{length, get_or, drop}
use lib.Dec.{leb}
use borrow.Author.Tests.{leb-true, leb-false}
use Rattle.text.specs.Number.{value_from}
use Rattle.text.proofs.Numbers.{digit_more}
use Rattle.totals.specs.Sum.{top}

-- further digits make a value no smaller
up : (m n : ℕ) (s : List ℕ) → m ≤ n → m ≤ value_from n s
unfolding value_from
up m n [] h = h
up m n (b ∷ s) h = up m (n * 10 + (b - 48)) s (omega arith)

-- cut off before further digits, and behind them
cut_off : (n : ℕ) (s : List ℕ) → min (value_from (min n top) s) top ≡ min (value_from n s) top
cut_off n s = by (leb n top) refl
  where
    by : (p : Bool) → leb n top ≡ p → min (value_from (min n top) s) top ≡ min (value_from n s) top
    by true e = let small : min n top ≡ n = omega (arith, leb-true n top e) in ap (λ (k : ℕ). min (value_from k s) top) small
    by false e =
        let large : top ≤ n = omega (arith, leb-false n top e) in
        omega (arith, up top (min n top) s (omega arith), up top n s large)

-- one digit more, each step cut off
pub digit_added : (n : ℕ) (s : List ℕ) (i : ℕ) {v : ℕ} → i < length s → v ≡ min (min (n * 10) top + (get_or s i 0 - 48)) top →
    min (value_from v (drop (i + 1) s)) top ≡ min (value_from n (drop i s)) top
digit_added n s i h e =
    let step : min (min (n * 10) top + (get_or s i 0 - 48)) top ≡ min (n * 10 + (get_or s i 0 - 48)) top = omega arith in
    ap (λ (k : ℕ). min (value_from k (drop (i + 1) s)) top) (e ∙ step) ∙ cut_off _ _ ∙ ap (λ (k : ℕ). min k top) (sym (digit_more n s i h))
