-- Laws of `holds_only`: it says that each byte is allowed, and goes by the parts of a part; and of single bytes, between which two they are allowed.
use Prim.Native.Nat.{ℕ, zero, suc, ◌≤◌, ◌<◌}
use mathlib.Core.Path.{◌≡◌, refl, ◌∙◌, ap}
use mathlib.Core.List.{List, [], ◌∷◌, ◌++◌}
use mathlib.Core.Bool.{Bool, true, false, ◌&&◌, false≢true}
use native.Mathlib.Omega.{arith}
use lib.ListN.{length, get_or}
use lib.Dec.{leb}
use borrow.Author.Tests.{le-leb, leb-true}
use Rattle.text.specs.declared.alphabet.Alphabet.{Alphabet}
use Rattle.text.specs.declared.alphabet.Alphabet.TheVariants.{Digits, CardText}
use Rattle.text.specs.Alphabet.{allowed, holds_only}

-- both halves of a test that holds
pub both_left : (p q : Bool) → p && q ≡ true → p ≡ true
both_left true q e = refl
both_left false q e = e

pub both_right : (p q : Bool) → p && q ≡ true → q ≡ true
both_right true q e = e
both_right false q e = absurd (false≢true e)

pub both : {p q : Bool} → p ≡ true → q ≡ true → p && q ≡ true
both {p} {q} e f = rw (e, f)

-- each byte of a part is allowed
pub at_each : (a : Alphabet) (s : List ℕ) → holds_only a s ≡ true → (i : ℕ) → i < length s → allowed a (get_or s i 0) ≡ true
unfolding holds_only
at_each a [] e i h = absurd (omega arith)
at_each a (b ∷ s) e zero h = both_left (allowed a b) (holds_only a s) e
at_each a (b ∷ s) e (suc i) h = at_each a s (both_right (allowed a b) (holds_only a s) e) i (omega arith)

-- where each byte is allowed, the part holds only such bytes
pub from_each : (a : Alphabet) (s : List ℕ) → ((i : ℕ) → i < length s → allowed a (get_or s i 0) ≡ true) → holds_only a s ≡ true
unfolding holds_only
from_each a [] h = refl
from_each a (b ∷ s) h = both (h 0 (omega arith)) (from_each a s (λ i l. h (suc i) (omega arith)))

-- two parts in a row
pub in_a_row : (a : Alphabet) (s t : List ℕ) → holds_only a (s ++ t) ≡ holds_only a s && holds_only a t
unfolding holds_only
in_a_row a [] t = refl
in_a_row a (b ∷ s) t = ap (λ q. allowed a b && q) (in_a_row a s t) ∙ grouped (allowed a b) (holds_only a s) (holds_only a t)
  where
    grouped : (p q r : Bool) → p && (q && r) ≡ p && q && r
    grouped true q r = refl
    grouped false q r = refl

-- a digit's byte
pub digit_low : (b : ℕ) → allowed Digits b ≡ true → 48 ≤ b
unfolding allowed
digit_low b e = leb-true 48 b (both_left (leb 48 b) (leb b 57) e)

pub digit_high : (b : ℕ) → allowed Digits b ≡ true → b ≤ 57
unfolding allowed
digit_high b e = leb-true b 57 (both_right (leb 48 b) (leb b 57) e)

-- bytes that are digits, and bytes that are text without an accent
pub digit_allowed : (b : ℕ) → 48 ≤ b → b ≤ 57 → allowed Digits b ≡ true
unfolding allowed
digit_allowed b l h = rw (le-leb 48 b l, le-leb b 57 h)

pub text_allowed : (b : ℕ) → 32 ≤ b → b ≤ 126 → allowed CardText b ≡ true
unfolding allowed
text_allowed b l h = rw (le-leb 32 b l, le-leb b 126 h)
