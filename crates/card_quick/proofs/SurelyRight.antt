-- A sale that passes the quick way reads as the slow way reads it: that the pictures keep each field of digits or text to its alphabet is computed
-- over the pictures, and the other fields are judged as they stand in the table.
use Prim.Native.Nat.{ℕ, ◌-◌, ◌≤◌}
use mathlib.Core.Path.{◌≡◌, refl, sym, ◌∙◌, ap}
use mathlib.Core.List.{List, [], ◌∷◌}
use mathlib.Core.Bool.{Bool, true, ◌&&◌}
use native.Mathlib.Omega.{arith}
use lib.ListN.{length, take, length-take, length-drop}
use lib.Dec.{leb}
use borrow.Author.Tests.{le-leb, leb-true, eq-eqb}
use Rattle.refusal.specs.Fault.{nothing}
use Rattle.refusal.specs.Rules.{first_broken}
use Rattle.refusal.proofs.Rules.{in_a_row}
use Rattle.text.specs.declared.alphabet.Alphabet.{Alphabet}
use Rattle.text.specs.declared.alphabet.Alphabet.TheVariants.{Digits as digits, CardText as card_text}
use Rattle.text.specs.Alphabet.{allowed, holds_only}
use Rattle.text.specs.Number.{value_of}
use Rattle.text.specs.Weighed.{value_if_digits}
use Rattle.text.specs.Literal.{same_bytes}
use Rattle.text.specs.Part.{positions}
use Rattle.text.proofs.Alphabets.{both_left, both_right, digit_allowed, text_allowed}
use Rattle.text.proofs.Weights.{if_digits}
use Rattle.calendar.specs.When.{written, only_if, when_rules}
use Rattle.calendar.specs.Day.{is_day}
use Rattle.calendar.specs.Time.{is_time}
use Rattle.pan.specs.CardField.{well_formed}
use Rattle.card_content.specs.declared.content.ClosedSet.{ClosedSet}
use Rattle.card_content.specs.declared.content.ClosedSet.TheVariants.{LaunchType, Product, Capture}
use Rattle.card_content.specs.declared.content.Content.TheVariants.{Digits, Text, Card, OneOf}
use Rattle.card_content.specs.declared.field.Field.{Field}
use Rattle.card_content.specs.Content.{in_set, content_rules}
use Rattle.card_content.specs.Field.{field, part_of, field_rules, table_rules, number_in, record_rules}
use Rattle.card_sale.specs.Cv.{cv_table, cv_of}
use Rattle.card_record.specs.declared.kind.Kind.TheVariants.{Cv as kind_cv}
use Rattle.std.specs.Prelude.{Some}
use Rattle.card_record.specs.declared.reading.Reading.TheVariants.{Cv as cv}
use Rattle.card_quick.specs.Quick.{none_above, least, greatest, in_picture, value_in, sets_right, days_right, surely_right, quick_cv}
use Rattle.card_record.specs.Kind.{kind_named, kind_of}
use Rattle.card_record.specs.Reading.{right_reading, judged_as, read_found, reading_of}
use Rattle.card_quick.proofs.Pictures.{slice_passes, at_least, at_most, between, neither_above}

-- every field of a table is right
infixr 20 ◌then◌
data AllRight (e : ℕ) (r : List ℕ) : List Field → Type 0 where
  none : AllRight e r []
  ◌then◌ : {f : Field} {fs : List Field} → first_broken (field_rules e r f) ≡ nothing → AllRight e r fs → AllRight e r (f ∷ fs)

-- so the table has no fault
no_fault_in : (e : ℕ) (r : List ℕ) (fs : List Field) → AllRight e r fs → first_broken (table_rules e r fs) ≡ nothing
unfolding table_rules first_broken
no_fault_in e r [] right = refl
no_fault_in e r (f ∷ fs) (here then rest) = in_a_row (field_rules e r f) (table_rules e r fs) ∙ rw (here, no_fault_in e r fs rest)

-- the pictures keep some positions between two bytes
kept_between : ℕ → ℕ → ℕ → ℕ → Bool
kept_between low high first last = at_least low (positions first last least) && at_most high (positions first last greatest)

-- they are as wide as a sale
wide_least : length least ≡ 199
unfolding least
wide_least = refl

wide_greatest : length greatest ≡ 199
unfolding greatest
wide_greatest = refl

module _ (r : List ℕ) (wide : length r ≡ 199) (fits : in_picture r ≡ true) where
  above_least : none_above least r ≡ true
  unfolding in_picture
  above_least = both_left (none_above least r) (none_above r greatest) fits

  below_greatest : none_above r greatest ≡ true
  unfolding in_picture
  below_greatest = both_right (none_above least r) (none_above r greatest) fits

  -- parts of rows of one length have one length
  part_length : (first last : ℕ) (s : List ℕ) → length s ≡ 199 → length (positions first last r) ≡ length (positions first last s)
  part_length first last s h =
      omega (arith, length-drop (first - 1) (take last r), length-take last r, length-drop (first - 1) (take last s), length-take last s)

  -- what the pictures keep to an alphabet
  held : (a : Alphabet) (low high : ℕ) → ((b : ℕ) → low ≤ b → b ≤ high → allowed a b ≡ true) → (first last : ℕ) →
      kept_between low high first last ≡ true → holds_only a (positions first last r) ≡ true
  unfolding kept_between
  held a low high all first last k =
      between a low high all
      (positions first last least) (positions first last r) (positions first last greatest)
      (sym (part_length first last least wide_least)) (part_length first last greatest wide_greatest)
      (slice_passes (first - 1) last least r above_least)
      (slice_passes (first - 1) last r greatest below_greatest)
      (both_left (at_least low (positions first last least)) _ k)
      (both_right (at_least low (positions first last least)) _ k)

  -- the kind is the same in both pictures, so it is the sale's
  is_sale_lem : kind_of r ≡ Some kind_cv
  unfolding least greatest kind_named same_bytes
  is_sale_lem =
      ap kind_named
      (sym (neither_above (positions 1 2 least) (positions 1 2 r)
      (sym (part_length 1 2 least wide_least))
      (slice_passes 0 2 least r above_least)
      (slice_passes 0 2 r greatest below_greatest)))

  digits_held : (first last : ℕ) → kept_between 48 57 first last ≡ true → holds_only digits (positions first last r) ≡ true
  digits_held = held digits 48 57 digit_allowed

  -- the number in such a field
  same_value : (first last : ℕ) → leb (last - (first - 1)) 17 ≡ true → kept_between 48 57 first last ≡ true →
      value_if_digits (positions first last r) ≡ value_of (positions first last r)
  same_value first last short k =
      if_digits (positions first last r)
      (omega (arith, leb-true (last - (first - 1)) 17 short, length-drop (first - 1) (take last r), length-take last r))
      (digits_held first last k)

  same_number : (f : Field) → leb (f.1 - (f.0 - 1)) 17 ≡ true → kept_between 48 57 f.0 f.1 ≡ true → value_in f r ≡ number_in f r
  same_number f short k =
      let few = leb-true (f.1 - (f.0 - 1)) 17 short in
      same_value f.0 f.1 short k ∙
      sym (rw (
        digits_held f.0 f.1 k,
        le-leb (length (part_of f r)) 18 (omega (arith, length-drop (f.0 - 1) (take f.1 r), length-take f.1 r)),
      ))

  same_numbers : quick_cv r ≡ cv_of r
  unfolding kept_between least greatest
  same_numbers =
      rw (
        same_number (field 44 44 (OneOf LaunchType)) refl refl,
        same_number (field 55 65 Digits) refl refl,
        same_number (field 66 76 Digits) refl refl,
        same_number (field 77 87 Digits) refl refl,
        same_number (field 107 108 Digits) refl refl,
        same_number (field 109 110 Digits) refl refl,
        same_number (field 111 122 Digits) refl refl,
        same_number (field 123 133 Digits) refl refl,
        same_number (field 134 144 Digits) refl refl,
        same_number (field 145 155 Digits) refl refl,
        same_number (field 194 199 Digits) refl refl,
      )

  -- each kind of field, where what is asked of it holds
  module _ (e : ℕ) where
    digits_right_lem : (first last : ℕ) → kept_between 48 57 first last ≡ true → first_broken (field_rules e r (field first last Digits)) ≡ nothing
    unfolding content_rules first_broken
    digits_right_lem first last k = rw (digits_held first last k)

    text_right : (first last : ℕ) → kept_between 32 126 first last ≡ true → first_broken (field_rules e r (field first last Text)) ≡ nothing
    unfolding content_rules first_broken
    text_right first last k = rw (held card_text 32 126 text_allowed first last k)

    set_right : (first last : ℕ) (set : ClosedSet) → in_set set e (positions first last r) ≡ true →
        first_broken (field_rules e r (field first last (OneOf set))) ≡ nothing
    unfolding content_rules first_broken
    set_right first last set h = rw h

    card_right : (first last : ℕ) → well_formed (positions first last r) ≡ true → first_broken (field_rules e r (field first last Card)) ≡ nothing
    unfolding content_rules first_broken
    card_right first last h = rw h

    -- a day or a time of so many digits
    when_right : (width : ℕ) (test : ℕ → Bool) (first last : ℕ) → length (positions first last r) ≡ width → leb width 17 ≡ true →
        kept_between 48 57 first last ≡ true → test (value_if_digits (positions first last r)) ≡ true →
        first_broken (when_rules first (only_if test (written width (positions first last r)))) ≡ nothing
    unfolding first_broken when_rules
    when_right width test first last w short k real =
        let d = digits_held first last k in
        let same = if_digits (positions first last r) (omega (arith, leb-true width 17 short)) d in
        rw (d, eq-eqb (length (positions first last r)) width w, sym (ap test same) ∙ real)

    -- the length of positions that lie in the sale
    inside_length : (first last : ℕ) → leb last 199 ≡ true → length (positions first last r) ≡ last - (first - 1)
    inside_length first last h =
        omega (arith, leb-true last 199 h, length-drop (first - 1) (take last r), length-take last r)

    -- so a sale whose sets and days are right has no fault
    no_fault : sets_right e r ≡ true → days_right r ≡ true → first_broken (table_rules e r cv_table) ≡ nothing
    unfolding sets_right days_right kept_between least greatest content_rules
    no_fault sets days =
        let launch = in_set LaunchType e (positions 44 44 r) in
        let product = in_set Product e (positions 53 53 r) in
        let capture = in_set Capture e (positions 54 54 r) in
        let card = well_formed (positions 88 106 r) in
        let date = is_day (value_if_digits (positions 30 37 r)) in
        let time = is_time (value_if_digits (positions 38 43 r)) in
        let launch-date = is_day (value_if_digits (positions 45 52 r)) in
        let sets2 = both_right launch (product && (capture && card)) sets in
        let sets3 = both_right product (capture && card) sets2 in
        let days2 = both_right date (time && launch-date) days in
        no_fault_in e r cv_table
        (text_right 3 17 refl then
        digits_right_lem 18 29 refl then
        when_right 8 is_day 30 37 (inside_length 30 37 refl) refl refl (both_left date (time && launch-date) days) then
        when_right 6 is_time 38 43 (inside_length 38 43 refl) refl refl (both_left time launch-date days2) then
        set_right 44 44 LaunchType (both_left launch (product && (capture && card)) sets) then
        when_right 8 is_day 45 52 (inside_length 45 52 refl) refl refl (both_right time launch-date days2) then
        set_right 53 53 Product (both_left product (capture && card) sets2) then
        set_right 54 54 Capture (both_left capture card sets3) then
        digits_right_lem 55 65 refl then
        digits_right_lem 66 76 refl then
        digits_right_lem 77 87 refl then
        card_right 88 106 (both_right capture card sets3) then
        digits_right_lem 107 108 refl then
        digits_right_lem 109 110 refl then
        digits_right_lem 111 122 refl then
        digits_right_lem 123 133 refl then
        digits_right_lem 134 144 refl then
        digits_right_lem 145 155 refl then
        digits_right_lem 156 158 refl then
        digits_right_lem 159 164 refl then
        text_right 165 175 refl then
        digits_right_lem 176 187 refl then
        text_right 188 190 refl then
        text_right 191 193 refl then
        digits_right_lem 194 199 refl then
        none)

-- a sale that passes is read as its numbers
pub quick_reads : (e : ℕ) (r : List ℕ) → length r ≡ 199 → surely_right e r ≡ true → cv (quick_cv r) ≡ reading_of e r
unfolding surely_right record_rules first_broken right_reading judged_as read_found
quick_reads e r wide sure =
    let fits = both_left (in_picture r) (sets_right e r && days_right r) sure in
    let rest = both_right (in_picture r) (sets_right e r && days_right r) sure in
    let none = no_fault r wide fits e (both_left (sets_right e r) (days_right r) rest) (both_right (sets_right e r) (days_right r) rest) in
    rw (is_sale_lem r wide fits, eq-eqb (length r) 199 wide, none) (ap cv (same_numbers r wide fits))
