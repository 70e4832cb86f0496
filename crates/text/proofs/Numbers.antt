-- Laws of the value that digits write: what one more digit does to it, and how large it can be.
use Prim.Native.Nat.{ℕ, ◌+◌, ◌-◌, ◌*◌, ◌^◌, ◌≤◌, ◌<◌}
use mathlib.Core.Path.{◌≡◌, subst}
use mathlib.Core.List.{List, [], ◌∷◌}
use mathlib.Core.Bool.{true}
use native.Mathlib.Omega.{arith}
use native.Mathlib.Numerals.{add-one}
use native.Mathlib.Nat.{add-zero, zero-add, pow-suc, pow-le-pow_right}
use lib.ListN.{length, get_or, drop, drop_of_length-le}
use lib.Seq.{drop-cons}
use lib.Dec.{lit<}
use Rattle.text.specs.declared.alphabet.Alphabet.TheVariants.{Digits}
use Rattle.text.specs.Alphabet.{allowed, holds_only}
use Rattle.text.specs.Number.{value_from, value_of}
use Rattle.text.proofs.Alphabets.{both_left, both_right, digit_high}

-- one more digit
pub digit_more : (n : ℕ) (s : List ℕ) (i : ℕ) → i < length s → value_from n (drop i s) ≡ value_from (n * 10 + (get_or s i 0 - 48)) (drop (i + 1) s)
unfolding value_from
digit_more n s i h = rw (drop-cons s i 0 h, add-one)

-- no digit left
pub digits_end : (n : ℕ) (s : List ℕ) (i : ℕ) → length s ≤ i → value_from n (drop i s) ≡ n
unfolding value_from
digits_end n s i h = rw (drop_of_length-le s h)

-- a value below 10^i stays below 10^(i + 1) with one more digit
pub below_more : (n i d : ℕ) → n < 10 ^ i → d ≤ 9 → n * 10 + d < 10 ^ (i + 1)
below_more n i d b h = rw (add-one, pow-suc) (omega arith)

-- n digits write a value below 10^n
below_from : (n k : ℕ) (s : List ℕ) → holds_only Digits s ≡ true → n < 10 ^ k → value_from n s < 10 ^ (k + length s)
unfolding value_from holds_only
below_from n k [] e h = rw add-zero h
below_from n k (b ∷ s) e h =
    let d : allowed Digits b ≡ true = both_left (allowed Digits b) (holds_only Digits s) e in
    let more = below_from (n * 10 + (b - 48)) (k + 1) s (both_right (allowed Digits b) (holds_only Digits s) e)
    (below_more n k (b - 48) h (omega (arith, digit_high b d))) in
    subst (λ (m : ℕ). value_from (n * 10 + (b - 48)) s < 10 ^ m) (omega arith) more

pub value_below : (s : List ℕ) → holds_only Digits s ≡ true → value_of s < 10 ^ length s
value_below s e = rw zero-add at (below_from 0 0 s e (lit< tt))

-- eighteen digits leave room for each step of reading them
pub room : (n i : ℕ) → i < 18 → n < 10 ^ i → n < 10 ^ 17
room n i h b = omega (arith, pow-le-pow_right {n = 10} (lit< tt) {i = i} {j = 17} (omega arith))
