-- Numbers in their places, there and back, by induction on the table.
use Prim.Native.Nat.{ℕ, zero, suc, ◌+◌, ◌/◌, ◌%◌, ◌^◌, ◌≤◌, ◌<◌}
use mathlib.Core.Path.{◌≡◌, refl, sym, ◌∙◌, ap, ap₂}
use mathlib.Core.List.{List, [], ◌∷◌, ◌++◌}
use mathlib.Core.Bool.{true}
use native.Mathlib.Omega.{arith}
use native.Mathlib.Nat.{mod-lt}
use borrow.Author.Tests.{le-leb, ltb-true}
use lib.ListN.{length, take, drop, length-drop}
use lib.Seq.{length-take-le, take_at, drop_at, take-add}
use lib.Dec.{lit<, ltb}
use lib.Pow.{are_bytes}
use Rattle.text.specs.declared.alphabet.Alphabet.TheVariants.{Digits as digits}
use Rattle.text.specs.Alphabet.{allowed, holds_only}
use Rattle.text.proofs.Alphabets.{both, both_left, both_right, digit_low, digit_high}
use Rattle.day_sheet.specs.declared.number.Form.{Form}
use Rattle.day_sheet.specs.declared.number.Form.TheVariants.{Bytes, Digits}
use Rattle.day_sheet.specs.declared.layout.Place.{Place}
use Rattle.day_sheet.specs.Number.{base, zero_byte, holds_right, in_base, value_in}
use Rattle.day_sheet.specs.Layout.{table_width, in_places, from_places, digits_right}
use Rattle.day_sheet.proofs.Filling.{length_digits}
use Rattle.day_sheet.proofs.Values.{Right, reads_back, same_digits}

base_positive : (f : Form) → 0 < base f
base_positive Bytes = lit< tt
base_positive Digits = lit< tt

-- each number that a table has a place for has room there
abbrev pub Fit : List Place → List ℕ → Type 0
Fit [] ns = Unit {0}
Fit (p ∷ ps) [] = ⊥
Fit (p ∷ ps) (n ∷ ns) = (n < base p.form ^ p.width) × Fit ps ns

-- numbers that have room are read back
pub read_back_lem : (ps : List Place) (ns : List ℕ) → Fit ps ns → from_places ps (in_places ps ns) ≡ take (length ps) ns
unfolding in_places from_places
read_back_lem [] ns f = refl
read_back_lem (p ∷ ps) [] f = absurd f
read_back_lem (p ∷ ps) (n ∷ ns) f =
    let b = base p.form in
    let z = zero_byte p.form in
    let here = in_base b z p.width n in
    let wide = length_digits b z p.width n in
    ap₂ ◌∷◌
    (ap (value_in b z 0) (take_at here (in_places ps ns) p.width wide) ∙ reads_back b z p.width n (base_positive p.form) f.0)
    (ap (from_places ps) (drop_at here (in_places ps ns) p.width wide) ∙ read_back_lem ps ns f.1)

-- what is written are digits, where the form has them
digits_written : (w n : ℕ) → holds_only digits (in_base 10 48 w n) ≡ true
unfolding in_base holds_only allowed
digits_written zero n = refl
digits_written (suc w) n =
    let q = n / 10 ^ w % 10 in
    let small : q < 10 = mod-lt (n / 10 ^ w) (lit< tt) in
    both (both (le-leb 48 (48 + q) (omega arith)) (le-leb (48 + q) 57 (omega arith))) (digits_written w n)

right_written : (f : Form) (w n : ℕ) → holds_right f (in_base (base f) (zero_byte f) w n) ≡ true
right_written Bytes w n = refl
right_written Digits w n = digits_written w n

pub all_digits : (ps : List Place) (ns : List ℕ) → Fit ps ns → digits_right ps (in_places ps ns) ≡ true
unfolding in_places digits_right
all_digits [] ns f = refl
all_digits (p ∷ ps) [] f = absurd f
all_digits (p ∷ ps) (n ∷ ns) f =
    let here = in_base (base p.form) (zero_byte p.form) p.width n in
    let wide = length_digits (base p.form) (zero_byte p.form) p.width n in
    both (ap (holds_right p.form) (take_at here (in_places ps ns) p.width wide) ∙ right_written p.form p.width n)
    (ap (digits_right ps) (drop_at here (in_places ps ns) p.width wide) ∙ all_digits ps ns f.1)

-- bytes are digits in base 256, and ASCII digits in base 10
bytes_right : (s : List ℕ) → are_bytes s ≡ true → Right 256 0 s
bytes_right [] e = tt
bytes_right (x ∷ s) e = (omega arith, ltb-true x 256 (both_left (ltb x 256) (are_bytes s) e), bytes_right s (both_right (ltb x 256) (are_bytes s) e))

digits_right_lem : (s : List ℕ) → holds_only digits s ≡ true → Right 10 48 s
unfolding holds_only
digits_right_lem [] e = tt
digits_right_lem (x ∷ s) e =
    let d = both_left (allowed digits x) (holds_only digits s) e in
    (digit_low x d, omega (arith, digit_high x d), digits_right_lem s (both_right (allowed digits x) (holds_only digits s) e))

right_in : (f : Form) (s : List ℕ) → are_bytes s ≡ true → holds_right f s ≡ true → Right (base f) (zero_byte f) s
right_in Bytes s b e = bytes_right s b
right_in Digits s b e = digits_right_lem s e

-- parts of bytes are bytes
take_bytes : (n : ℕ) (s : List ℕ) → are_bytes s ≡ true → are_bytes (take n s) ≡ true
take_bytes zero s e = refl
take_bytes (suc n) [] e = refl
take_bytes (suc n) (x ∷ s) e = both (both_left (ltb x 256) (are_bytes s) e) (take_bytes n s (both_right (ltb x 256) (are_bytes s) e))

pub drop_bytes : (n : ℕ) (s : List ℕ) → are_bytes s ≡ true → are_bytes (drop n s) ≡ true
drop_bytes zero s e = e
drop_bytes (suc n) [] e = refl
drop_bytes (suc n) (x ∷ s) e = drop_bytes n s (both_right (ltb x 256) (are_bytes s) e)

-- bytes whose places of digits hold digits are written back
pub written_back : (ps : List Place) (s : List ℕ) → table_width ps ≤ length s → are_bytes s ≡ true → digits_right ps s ≡ true →
    in_places ps (from_places ps s) ≡ take (table_width ps) s
unfolding table_width in_places from_places digits_right
written_back [] s h e d = refl
written_back (p ∷ ps) s h e d =
    let b = base p.form in
    let z = zero_byte p.form in
    let here = take p.width s in
    let there = drop p.width s in
    let wide : length here ≡ p.width = length-take-le p.width s (omega arith) in
    let rest : table_width ps ≤ length there = omega (arith, length-drop p.width s) in
    let right = right_in p.form here (take_bytes p.width s e) (both_left (holds_right p.form here) (digits_right ps there) d) in
    ap₂ ◌++◌
    (ap (λ (w : ℕ). in_base b z w (value_in b z 0 here)) (sym wide) ∙ same_digits b z 0 here (base_positive p.form) right)
    (written_back ps there rest (drop_bytes p.width s e) (both_right (holds_right p.form here) (digits_right ps there) d)) ∙
    sym (take-add p.width (table_width ps) s)
