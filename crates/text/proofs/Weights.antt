-- Laws of bytes that are taken for digits: what one more byte does, that 17 of them leave room, and that of digits the value is their number.
use Prim.Native.Nat.{ℕ, ◌+◌, ◌-◌, ◌*◌, ◌^◌, ◌≤◌, ◌<◌}
use mathlib.Core.Path.{◌≡◌, refl, ◌∙◌, ap}
use mathlib.Core.List.{List, [], ◌∷◌}
use mathlib.Core.Bool.{true}
use native.Mathlib.Omega.{arith}
use native.Mathlib.Numerals.{add-one}
use native.Mathlib.Nat.{pow-suc, pow-le-pow_right}
use lib.ListN.{length, get_or, drop, drop_of_length-le}
use lib.Seq.{drop-cons}
use lib.Dec.{lit<}
use borrow.Author.Tests.{le-leb}
use Rattle.text.specs.declared.alphabet.Alphabet.TheVariants.{Digits}
use Rattle.text.specs.Alphabet.{allowed, holds_only}
use Rattle.text.specs.Number.{value_from, value_of}
use Rattle.text.specs.Weighed.{weighed, zeros_weighed, value_if_digits}
use Rattle.text.proofs.Alphabets.{both_left, both_right, digit_low}

-- one more byte, and none left
pub byte_more : (n : ℕ) (s : List ℕ) (i : ℕ) → i < length s → weighed n (drop i s) ≡ weighed (n * 10 + get_or s i 0) (drop (i + 1) s)
unfolding weighed
byte_more n s i h = rw (drop-cons s i 0 h, add-one)

pub zero_more : (n : ℕ) (s : List ℕ) (i : ℕ) → i < length s → zeros_weighed n (drop i s) ≡ zeros_weighed (n * 10 + 48) (drop (i + 1) s)
unfolding zeros_weighed
zero_more n s i h = rw (drop-cons s i 0 h, add-one)

pub bytes_end : (n : ℕ) (s : List ℕ) (i : ℕ) → length s ≤ i → weighed n (drop i s) ≡ n
unfolding weighed
bytes_end n s i h = rw (drop_of_length-le s h)

pub zeros_end : (n : ℕ) (s : List ℕ) (i : ℕ) → length s ≤ i → zeros_weighed n (drop i s) ≡ n
unfolding zeros_weighed
zeros_end n s i h = rw (drop_of_length-le s h)

-- i bytes come to less than 29 * 10^i, with room for the next
abbrev pub Light : ℕ → ℕ → Type 0
Light n i = n + 29 ≤ 29 * 10 ^ i

pub light_more : (n i b : ℕ) → Light n i → b < 256 → Light (n * 10 + b) (i + 1)
light_more n i b l h = rw (add-one, pow-suc) (omega arith)

pub light_room : (n i : ℕ) → i < 17 → Light n i → n < 29 * 10 ^ 16
light_room n i h l = omega (arith, pow-le-pow_right {n = 10} (lit< tt) {i = i} {j = 16} (omega arith))

-- of digits, the bytes come to their number and as many zeros
digits_weigh : (n z : ℕ) (s : List ℕ) → holds_only Digits s ≡ true → weighed (n + z) s ≡ value_from n s + zeros_weighed z s
unfolding weighed zeros_weighed value_from holds_only
digits_weigh n z [] e = refl
digits_weigh n z (b ∷ s) e =
    let low = digit_low b (both_left (allowed Digits b) (holds_only Digits s) e) in
    let same : (n + z) * 10 + b ≡ n * 10 + (b - 48) + (z * 10 + 48) = omega arith in
    ap (λ (k : ℕ). weighed k s) same ∙
    digits_weigh (n * 10 + (b - 48)) (z * 10 + 48) s (both_right (allowed Digits b) (holds_only Digits s) e)

pub if_digits : (s : List ℕ) → length s ≤ 17 → holds_only Digits s ≡ true → value_if_digits s ≡ value_of s
if_digits s short e =
    let both : weighed 0 s ≡ value_of s + zeros_weighed 0 s = digits_weigh 0 0 s e in
    rw (le-leb (length s) 17 short) (omega arith)
