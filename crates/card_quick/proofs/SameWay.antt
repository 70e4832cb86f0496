-- Records that are equal outside the card, and whose cards are both well formed, take the same way: the picture lets every digit and every star pass there, and nothing else
-- that is asked of a record looks at its card but for whether it is well formed.
use Prim.Native.Nat.{ℕ}
use mathlib.Core.Path.{◌≡◌, refl, sym, ◌∙◌, ap, ap₂}
use mathlib.Core.List.{List, [], ◌∷◌}
use mathlib.Core.Bool.{Bool, true, false, ◌&&◌, ◌||◌}
use native.Mathlib.Omega.{arith}
use lib.ListN.{length}
use lib.Dec.{leb, eqb}
use lib.Seq.{slice}
use borrow.Author.Tests.{le-leb, leb-true, eqb-true}
use Rattle.text.specs.declared.alphabet.Alphabet.TheVariants.{DigitsAndStars}
use Rattle.text.specs.Alphabet.{digit, allowed, holds_only}
use Rattle.text.specs.Weighed.{value_if_digits}
use Rattle.text.proofs.Alphabets.{both, both_left, both_right}
use Rattle.calendar.specs.Day.{is_day}
use Rattle.calendar.specs.Time.{is_time}
use Rattle.pan.specs.CardField.{well_formed}
use Rattle.card_content.specs.declared.content.ClosedSet.{ClosedSet}
use Rattle.card_content.specs.declared.content.ClosedSet.TheVariants.{LaunchType, Product, Capture}
use Rattle.card_content.specs.declared.content.Content.TheVariants.{Day, Time, OneOf}
use Rattle.card_content.specs.declared.field.Field.{Field}
use Rattle.card_content.specs.Content.{in_set}
use Rattle.card_content.specs.EqualOutside.{EqualOutside}
use Rattle.card_content.specs.Field.{field, part_of}
use Rattle.card_content.proofs.FieldParts.{clear, same_part}
use Rattle.card_quick.specs.Quick.{least, greatest, in_picture, value_in, sets_right, days_right, surely_right, passes_quick}
use Rattle.card_quick.proofs.Pictures.{rows_alike, at_least, at_most, none_between}

-- a digit or a star lies between the star and the 9
between : (b : ℕ) → allowed DigitsAndStars b ≡ true → (leb 42 b ≡ true) × (leb b 57 ≡ true)
unfolding allowed
between b h = by (eqb b 42) refl h
  where
    by : (star : Bool) → eqb b 42 ≡ star → star || digit b ≡ true → (leb 42 b ≡ true) × (leb b 57 ≡ true)
    by true e d =
        let is = eqb-true b 42 e in
        (le-leb 42 b (omega arith), le-leb b 57 (omega arith))
    by false e d =
        let low = leb-true 48 b (both_left (leb 48 b) (leb b 57) d) in
        (le-leb 42 b (omega arith), both_right (leb 48 b) (leb b 57) d)

-- so does each byte of a well-formed card
all_between : (p : List ℕ) → holds_only DigitsAndStars p ≡ true → (at_least 42 p ≡ true) × (at_most 57 p ≡ true)
unfolding holds_only
all_between [] h = (refl, refl)
all_between (b ∷ p) h =
    let one = between b (both_left (allowed DigitsAndStars b) (holds_only DigitsAndStars p) h) in
    let others = all_between p (both_right (allowed DigitsAndStars b) (holds_only DigitsAndStars p) h) in
    (both one.0 others.0, both one.1 others.1)

formed_between : (p : List ℕ) → well_formed p ≡ true → (at_least 42 p ≡ true) × (at_most 57 p ≡ true)
unfolding well_formed
formed_between p h = all_between p (both_right (eqb (length p) 19) (holds_only DigitsAndStars p) h)

module _ (r s : List ℕ) (same : EqualOutside 87 106 r s) (card : well_formed (slice 87 106 r) ≡ true) (other : well_formed (slice 87 106 s) ≡ true) where
  itself : (a : List ℕ) → EqualOutside 87 106 a a
  itself a = record { before = refl; behind = refl }

  same_picture : in_picture r ≡ in_picture s
  unfolding in_picture least greatest
  same_picture =
      let of-r = formed_between (slice 87 106 r) card in
      let of-s = formed_between (slice 87 106 s) other in
      ap₂ ◌&&◌
      (rows_alike 87 106 least least r s (omega arith) (itself least) same
      (none_between 42 (slice 87 106 least) (slice 87 106 r) refl of-r.0)
      (none_between 42 (slice 87 106 least) (slice 87 106 s) refl of-s.0))
      (rows_alike 87 106 r s greatest greatest (omega arith) same (itself greatest)
      (none_between 57 (slice 87 106 r) (slice 87 106 greatest) of-r.1 refl)
      (none_between 57 (slice 87 106 s) (slice 87 106 greatest) of-s.1 refl))

  same_sets : (edition : ℕ) → sets_right edition r ≡ sets_right edition s
  unfolding sets_right
  same_sets edition =
      let one : (set : ClosedSet) (f : Field) → clear 87 106 f ≡ true → in_set set edition (part_of f r) ≡ in_set set edition (part_of f s) =
      λ set f c. ap (in_set set edition) (same_part 87 106 r s same f c) in
      ap₂ ◌&&◌ (one LaunchType (field 44 44 (OneOf LaunchType)) refl)
      (ap₂ ◌&&◌ (one Product (field 53 53 (OneOf Product)) refl)
      (ap₂ ◌&&◌ (one Capture (field 54 54 (OneOf Capture)) refl) (card ∙ sym other)))

  same_days : days_right r ≡ days_right s
  unfolding days_right
  same_days =
      let value : (f : Field) → clear 87 106 f ≡ true → value_in f r ≡ value_in f s = λ f c. ap value_if_digits (same_part 87 106 r s same f c) in
      ap₂ ◌&&◌ (ap is_day (value (field 30 37 Day) refl))
      (ap₂ ◌&&◌ (ap is_time (value (field 38 43 Time) refl)) (ap is_day (value (field 45 52 Day) refl)))

  pub same_way : (edition : ℕ) → length r ≡ length s → passes_quick edition r ≡ passes_quick edition s
  unfolding surely_right
  same_way edition wide =
      ap₂ ◌&&◌ (ap (λ n. eqb n 199) wide) (ap₂ ◌&&◌ same_picture (ap₂ ◌&&◌ (same_sets edition) same_days))
