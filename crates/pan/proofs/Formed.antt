-- Laws of `well_formed`: it says that a field is 19 long and that each of its bytes is a digit or a star.
use Prim.Native.Nat.{ℕ, ◌<◌}
use mathlib.Core.Path.{◌≡◌, sym, ◌∙◌}
use mathlib.Core.List.{List}
use mathlib.Core.Bool.{Bool, true, or-true}
use lib.ListN.{length, get_or}
use lib.Dec.{eqb}
use borrow.Author.Tests.{eq-eqb, eqb-true}
use Rattle.text.specs.Alphabet.{digit, digit_or_star, allowed, holds_only}
use Rattle.text.specs.declared.alphabet.Alphabet.TheVariants.{DigitsAndStars}
use Rattle.text.proofs.Alphabets.{both, both_left, both_right, at_each, from_each}
use Rattle.pan.specs.CardField.{well_formed}
use Rattle.pan.specs.AgreeOutside.{AgreeOutside}
use Rattle.pan.proofs.Tests.{by_test}

pub width : (s : List ℕ) → well_formed s ≡ true → length s ≡ 19
unfolding well_formed
width s e = eqb-true (length s) 19 (both_left (eqb (length s) 19) (holds_only DigitsAndStars s) e)

pub each_byte : (s : List ℕ) → well_formed s ≡ true → (i : ℕ) → i < length s → digit_or_star (get_or s i 0) ≡ true
unfolding well_formed allowed
each_byte s e = at_each DigitsAndStars s (both_right (eqb (length s) 19) (holds_only DigitsAndStars s) e)

pub from_bytes : (s : List ℕ) → length s ≡ 19 → ((i : ℕ) → i < length s → digit_or_star (get_or s i 0) ≡ true) → well_formed s ≡ true
unfolding well_formed allowed
from_bytes s l h = both (eq-eqb (length s) 19 l) (from_each DigitsAndStars s h)

-- digits put for some bytes of a well-formed field leave it well formed
pub with_digits : (p : ℕ → Bool) (s t : List ℕ) → well_formed s ≡ true → AgreeOutside p s t →
    ((i : ℕ) → i < length s → p i ≡ true → digit (get_or t i 0) ≡ true) → well_formed t ≡ true
with_digits p s t e a h = from_bytes t (sym a.same_length ∙ width s e) (λ i k. byte i (rw a.same_length k))
  where
    byte : (i : ℕ) → i < length s → digit_or_star (get_or t i 0) ≡ true
    byte i k =
        by_test (p i)
        (λ f. rw (h i k f) (or-true (eqb (get_or t i 0) 42)))
        (λ f. rw (← a.same_byte i k f) (each_byte s e i k))
