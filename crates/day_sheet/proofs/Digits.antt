-- Laws of a number's digits in a base: writing them from the last to the first, reading them from the first to the last, there and back.
use Prim.Native.Nat.{ℕ, suc, ◌+◌, ◌*◌, ◌-◌, ◌/◌, ◌%◌, ◌^◌, ◌≤◌, ◌<◌}
use mathlib.Core.Path.{◌≡◌, sym, ◌∙◌, ap, ap₂}
use mathlib.Core.List.{List, ◌∷◌}
use native.Mathlib.Omega.{arith}
use native.Mathlib.Numerals.{add-one}
use native.Mathlib.Nat.{pow-zero, pow-suc, pow-le-pow_right, div-one, div-div-eq-div-mul}
use lib.ListN.{length, get_or, drop, set, length-set, drop_of_length-le}
use lib.Dec.{lit<}
use lib.Seq.{drop-cons, drop-length, get_or-set_same, drop-set-lt}
use Rattle.day_sheet.specs.declared.number.Form.{Form}
use Rattle.day_sheet.specs.declared.number.Form.TheVariants.{Bytes, Digits}
use Rattle.day_sheet.specs.Number.{base, zero_byte, in_base, value_in}

-- a byte put in front of what is written already
drop_set : (l : List ℕ) (j x : ℕ) → j < length l → drop j (set l j x) ≡ x ∷ drop (suc j) l
drop_set l j x h =
    drop-cons (set l j x) j 0 (rw length-set h) ∙ ap₂ ◌∷◌ (get_or-set_same l j x 0 h) (drop-set-lt (suc j) l j x (omega arith))

-- writing: before the first digit; one digit more, in front of those that are written; what is then left of the number
module _ (b z n : ℕ) where
  pub none_written : (l : List ℕ) → drop (length l) l ≡ in_base b z 0 n
  unfolding in_base
  none_written l = drop-length l

  pub all_left : n ≡ n / b ^ 0
  all_left = sym (ap (λ (m : ℕ). n / m) (pow-zero b) ∙ div-one n)

  pub one_more : (l : List ℕ) (j k left x : ℕ) → j < length l → drop (suc j) l ≡ in_base b z k n → left ≡ n / b ^ k → x ≡ z + left % b →
      drop j (set l j x) ≡ in_base b z (suc k) n
  unfolding in_base
  one_more l j k left x h written lefts e = drop_set l j x h ∙ ap₂ ◌∷◌ (e ∙ ap (λ (m : ℕ). z + m % b) lefts) written

  pub less_left : (k left rest : ℕ) → left ≡ n / b ^ k → rest ≡ left / b → rest ≡ n / b ^ suc k
  less_left k left rest lefts e =
      e ∙ ap (λ (m : ℕ). m / b) lefts ∙ div-div-eq-div-mul n (b ^ k) b ∙ ap (λ (m : ℕ). n / m) (sym (pow-suc b k))

  -- at the front all digits are written
  pub all_written : (l : List ℕ) (i w : ℕ) → i ≡ 0 → drop i l ≡ in_base b z (w - i) n → l ≡ in_base b z w n
  all_written l i w e written =
      let none : w - i ≡ w = omega arith in
      ap (λ (k : ℕ). drop k l) (sym e) ∙ written ∙ ap (λ (k : ℕ). in_base b z k n) none

-- reading: one digit more, and no digit left
pub digit_more : (b z n : ℕ) (s : List ℕ) (i : ℕ) → i < length s → value_in b z n (drop i s) ≡ value_in b z (n * b + (get_or s i 0 - z)) (drop (i + 1) s)
unfolding value_in
digit_more b z n s i h = rw (drop-cons s i 0 h, add-one)

pub digits_end : (b z n : ℕ) (s : List ℕ) (i : ℕ) → length s ≤ i → value_in b z n (drop i s) ≡ n
unfolding value_in
digits_end b z n s i h = rw (drop_of_length-le s h)

-- a value of i bytes is below 256^i, in either form, and eight of them leave room
pub byte_more : (f : Form) (n i x : ℕ) → n < 256 ^ i → x < 256 → n * base f + (x - zero_byte f) < 256 ^ (i + 1)
byte_more Bytes n i x h k = rw (add-one, pow-suc) (omega arith)
byte_more Digits n i x h k = rw (add-one, pow-suc) (omega arith)

pub room : (n i : ℕ) → i < 8 → n < 256 ^ i → n < 256 ^ 7
room n i h k = omega (arith, pow-le-pow_right {n = 256} (lit< tt) {i = i} {j = 7} (omega arith))
