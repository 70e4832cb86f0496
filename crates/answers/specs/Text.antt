-- What the contracts of `text` are held to. Behind a function's name: the wrong programs that are ruled out.
use Rattle.std.specs.Prelude.{true, false, Err, None, Ok, Some}
use Rattle.text.specs.Literal.{ascii}
use Rattle.text.specs.declared.alphabet.Alphabet.TheVariants.{Digits, CardText, PlainAscii, DigitsAndStars}
use base.Fml.{Lft}
use Rattle.text.specs.contracts.alphabet.allows as Allows
use Rattle.text.specs.contracts.alphabet.holds_only as HoldsOnly
use Rattle.text.specs.contracts.alphabet.first_stray as FirstStray
use Rattle.text.specs.contracts.number.number_of as NumberOf
use Rattle.text.specs.contracts.number.or_zero as OrZero
use Rattle.text.specs.contracts.number.value_if_digits as ValueIfDigits
use Rattle.text.specs.contracts.literal.equals as Equals
use Rattle.text.specs.contracts.literal.is_one_of as IsOneOf
use Rattle.text.specs.contracts.part.part_of as PartOf
use borrow.Fn.Read.{r_last}
use Rattle.answers.specs.Held.{Claim, fact_of, logic, memory, run, OneAnswer, OnePart, Tells, lent, part, one, two}
use Rattle.text.specs.declared.number.NoNumber.TheVariants.{NotDigits, TooLong}

-- what each contract says
abbrev AllowsSays : Claim Allows.ended
AllowsSays κs a r s = fact_of ((Allows.clauses logic memory run κs a).ensures tt r s) (r_last _)

abbrev HoldsOnlySays : Claim HoldsOnly.ended
HoldsOnlySays κs a r s = fact_of ((HoldsOnly.clauses logic memory run κs a).ensures tt r s) (r_last _)

abbrev FirstStraySays : Claim FirstStray.ended
FirstStraySays κs a r s = fact_of ((FirstStray.clauses logic memory run κs a).ensures tt r s) (r_last _)

abbrev NumberOfSays : Claim NumberOf.ended
NumberOfSays κs a r s = fact_of ((NumberOf.clauses logic memory run κs a).ensures tt r s) (r_last _)

abbrev OrZeroSays : Claim OrZero.ended
OrZeroSays κs a r s = fact_of ((OrZero.clauses logic memory run κs a).ensures tt r s) (r_last _)

abbrev ValueIfDigitsSays : Claim ValueIfDigits.ended
ValueIfDigitsSays κs a r s = fact_of ((ValueIfDigits.clauses logic memory run κs a).ensures tt r s) (r_last _)

abbrev EqualsSays : Claim Equals.ended
EqualsSays κs a r s = fact_of ((Equals.clauses logic memory run κs a).ensures tt r s) (r_last _)

abbrev IsOneOfSays : Claim IsOneOf.ended
IsOneOfSays κs a r s = fact_of ((IsOneOf.clauses logic memory run κs a).ensures tt r s) (r_last _)

abbrev PartOfSays : Claim PartOf.ended
PartOfSays κs a r s = fact_of ((PartOf.clauses logic memory run κs a).ensures tt r s) (r_last _)

pub record Text (κ : Lft) : Type 0 where
  -- `allows`: `:`, and `/`, taken for a digit; a star refused in a card
  pub allows : OneAnswer AllowsSays
  pub allows_colon : Tells (AllowsSays tt) (Digits, (58, tt)) false true
  pub allows_slash : Tells (AllowsSays tt) (Digits, (47, tt)) false true
  pub allows_star : Tells (AllowsSays tt) (DigitsAndStars, (42, tt)) true false
  -- in AN: a byte refused at an end of what it may hold, or taken next to one; the same where there are no accents: `~` refused, 160 taken
  pub allows_tilde : Tells (AllowsSays tt) (CardText, (126, tt)) true false
  pub allows_127 : Tells (AllowsSays tt) (CardText, (127, tt)) false true
  pub allows_159 : Tells (AllowsSays tt) (CardText, (159, tt)) false true
  pub allows_160 : Tells (AllowsSays tt) (CardText, (160, tt)) true false
  pub allows_255 : Tells (AllowsSays tt) (CardText, (255, tt)) true false
  pub allows_plain_tilde : Tells (AllowsSays tt) (PlainAscii, (126, tt)) true false
  pub allows_plain_160 : Tells (AllowsSays tt) (PlainAscii, (160, tt)) false true
  -- `holds_only`: a look at the first byte alone, and at the last
  pub holds_only_lem : OneAnswer HoldsOnlySays
  pub holds_only_first : Tells (HoldsOnlySays (one κ)) (Digits, (lent (ascii "1a"), tt)) false true
  pub holds_only_last : Tells (HoldsOnlySays (one κ)) (Digits, (lent (ascii "a1"), tt)) false true
  -- `first_stray`: counted from 1; the last of two; none behind 16 bytes that are right
  pub first_stray_lem : OneAnswer FirstStraySays
  pub stray_from_one : Tells (FirstStraySays (one κ)) (Digits, (lent (ascii "12a4"), tt)) (Some 2) (Some 3)
  pub stray_last : Tells (FirstStraySays (one κ)) (Digits, (lent (ascii "a1b"), tt)) (Some 0) (Some 2)
  pub stray_behind_block : Tells (FirstStraySays (one κ)) (Digits, (lent (ascii "1234567890123456x"), tt)) (Some 16) None
  -- `number_of`: a value that wraps, 2^64 + 1; a blank passed over
  pub number_of_lem : OneAnswer NumberOfSays
  pub number_wraps : Tells (NumberOfSays (one κ)) (lent (ascii "18446744073709551617"), tt) (Err TooLong) (Ok 1)
  pub number_blank : Tells (NumberOfSays (one κ)) (lent (ascii " 12"), tt) (Err NotDigits) (Ok 12)
  -- `or_zero`: the largest number for one that is too long; 0 for every number
  pub or_zero : OneAnswer OrZeroSays
  pub or_zero_top : Tells (OrZeroSays tt) ((Err TooLong), tt) 0 18446744073709551615
  pub or_zero_always : Tells (OrZeroSays tt) (Ok 7, tt) 7 0
  -- `value_if_digits`: bytes weighed as they stand; 18 digits taken, which can leave 64 bits
  pub value_if_digits_lem : OneAnswer ValueIfDigitsSays
  pub value_of_bytes : Tells (ValueIfDigitsSays (one κ)) (lent (ascii "250"), tt) 250 5578
  pub value_of_eighteen : Tells (ValueIfDigitsSays (one κ)) (lent (ascii "100000000000000000"), tt) 0 100000000000000000
  -- `equals`: what begins with the text taken for it; letters of the other case taken
  pub equals : OneAnswer EqualsSays
  pub equals_longer : Tells (EqualsSays (two κ)) (lent (ascii "CV1"), (lent (ascii "CV"), tt)) false true
  pub equals_other_case : Tells (EqualsSays (two κ)) (lent (ascii "cv"), (lent (ascii "CV"), tt)) false true
  -- `is_one_of`: a part of two bytes judged by its first; no byte at all taken
  pub is_one_of_lem : OneAnswer IsOneOfSays
  pub one_of_two_bytes : Tells (IsOneOfSays (two κ)) (lent (ascii "12"), (lent (ascii "012"), tt)) false true
  pub one_of_no_byte : Tells (IsOneOfSays (two κ)) (lent (ascii ""), (lent (ascii "012"), tt)) false true
  -- `part_of`: positions counted from 0; other bytes with the same content
  pub part_of : OnePart PartOfSays
  pub part_from_zero : Tells (PartOfSays (one κ)) (1, (2, (lent (ascii "CV1"), tt))) (part 0 (ascii "CV")) (part 1 (ascii "V1"))
  pub part_elsewhere : Tells (PartOfSays (one κ)) (1, (2, (lent (ascii "0000"), tt))) (part 0 (ascii "00")) (part 2 (ascii "00"))
