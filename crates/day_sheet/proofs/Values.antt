-- A number and its digits in a base, there and back: the digits' value is the number, and the value's digits are the digits.
use Prim.Native.Nat.{ℕ, zero, suc, ◌+◌, ◌*◌, ◌-◌, ◌/◌, ◌%◌, ◌^◌, ◌≤◌, ◌<◌}
use mathlib.Core.Path.{◌≡◌, refl, sym, ◌∙◌, ap, ap₂}
use mathlib.Core.List.{List, [], ◌∷◌}
use native.Mathlib.Omega.{arith}
use native.Mathlib.Nat.{pow-zero, pow-succ', mod-one, mod-eq_of_lt, add-sub_cancel_left}
use lib.Arith.{digits_lt, digits_div, digits_mod, mod-mul}
use lib.ListN.{length}
use Rattle.day_sheet.specs.Number.{in_base, value_in}

-- bytes that stand for digits: from the byte for 0 up to the one for b - 1
abbrev pub Right : ℕ → ℕ → List ℕ → Type 0
Right b z [] = Unit {0}
Right b z (x ∷ s) = (z ≤ x) × (x < z + b) × Right b z s

pow_positive : (b w : ℕ) → 0 < b → 0 < b ^ w
pow_positive b zero h = rw pow-zero (omega arith)
pow_positive b (suc w) h = rw pow-succ' (omega (arith, digits_lt {q = 0} {m = b} {r = 0} {c = b ^ w} h (pow_positive b w h)))

regrouped : (m b q p r : ℕ) → (m * b + q) * p + r ≡ m * (b * p) + (q * p + r)
regrouped m b q p r = omega arith

-- the value of the digits that are written behind m
pub value_digits : (b z w n m : ℕ) → 0 < b → value_in b z m (in_base b z w n) ≡ m * b ^ w + n % b ^ w
unfolding in_base value_in
value_digits b z zero n m h = rw (pow-zero, mod-one) (omega arith)
value_digits b z (suc w) n m h =
    let q = n / b ^ w % b in
    ap (λ (d : ℕ). value_in b z (m * b + d) (in_base b z w n)) (add-sub_cancel_left z q) ∙
    value_digits b z w n (m * b + q) h ∙
    regrouped m b q (b ^ w) (n % b ^ w) ∙
    ap (λ (k : ℕ). m * (b * b ^ w) + k) (sym (mod-mul n h (pow_positive b w h))) ∙
    ap (λ (k : ℕ). m * k + n % k) (sym (pow-succ' b w))

-- so a number that has room reads back
pub reads_back : (b z w n : ℕ) → 0 < b → n < b ^ w → value_in b z 0 (in_base b z w n) ≡ n
reads_back b z w n h k = value_digits b z w n 0 h ∙ rw (mod-eq_of_lt k) (omega arith)

-- what stands in front counts for its place
value_from_lem : (b z m : ℕ) (s : List ℕ) → value_in b z m s ≡ m * b ^ length s + value_in b z 0 s
unfolding value_in
value_from_lem b z m [] = rw pow-zero (omega arith)
value_from_lem b z m (x ∷ s) =
    let d = x - z in
    value_from_lem b z (m * b + d) s ∙
    regrouped m b d (b ^ length s) (value_in b z 0 s) ∙
    ap₂ ◌+◌ (ap (λ (k : ℕ). m * k) (sym (pow-succ' b (length s)))) (sym (ap (λ (k : ℕ). value_in b z k s) (omega arith) ∙ value_from_lem b z d s))

value_below : (b z : ℕ) (s : List ℕ) → 0 < b → Right b z s → value_in b z 0 s < b ^ length s
unfolding value_in
value_below b z [] h r = rw pow-zero (omega arith)
value_below b z (x ∷ s) h r =
    let small : x - z < b = omega (arith, r.0, r.1) in
    let alone : 0 * b + (x - z) ≡ x - z = omega arith in
    rw (alone, value_from_lem b z (x - z) s, pow-succ') (digits_lt small (value_below b z s h r.2))

-- the digits of the value are the digits
pub same_digits : (b z m : ℕ) (s : List ℕ) → 0 < b → Right b z s → in_base b z (length s) (value_in b z m s) ≡ s
unfolding in_base value_in
same_digits b z m [] h r = refl
same_digits b z m (x ∷ s) h r =
    let small : x - z < b = omega (arith, r.0, r.1) in
    let back : z + (x - z) ≡ x = omega (arith, r.0) in
    ap₂ ◌∷◌
    (ap (λ (v : ℕ). z + v / b ^ length s % b) (value_from_lem b z (m * b + (x - z)) s) ∙
    ap (λ (v : ℕ). z + v % b) (digits_div (m * b + (x - z)) (value_below b z s h r.2)) ∙
    ap (λ (v : ℕ). z + v) (digits_mod m small) ∙ back)
    (same_digits b z (m * b + (x - z)) s h r.2)
