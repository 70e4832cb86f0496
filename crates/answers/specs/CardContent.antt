-- What the contracts of a card record's fields are held to. Behind a function's name: the wrong programs that are ruled out.
use Rattle.std.specs.Prelude.{true, false}
use Rattle.text.specs.Literal.{ascii}
use Rattle.refusal.specs.declared.Cause.TheVariants.{ByteNotAllowed, ValueNotAllowed, AmountsDisagree}
use Rattle.card_content.specs.declared.content.Content.TheVariants.{Digits, Text, Day, DayOrZeros, Card, CardOrBlanks, OneOf}
use Rattle.card_content.specs.declared.content.ClosedSet.TheVariants.{Version, Currency, Product, Capture, AdjustmentCapture, AdjustmentType}
use Rattle.card_content.specs.Field.{field}
use Rattle.demands.specs.ExampleFile.{l9}
use Rattle.answers.specs.Samples.{at, sale, blank_card}
use base.Fml.{Lft}
use Rattle.card_content.specs.contracts.content.is_in_set as IsInSet
use Rattle.card_content.specs.contracts.content.fault_of as FaultOf
use Rattle.card_content.specs.contracts.field.Field.part as Part
use Rattle.card_content.specs.contracts.field.Field.fault as Fault
use Rattle.card_content.specs.contracts.field.Field.number as Number
use Rattle.card_content.specs.contracts.field.Field.rule as Rule
use borrow.Fn.Read.{r_last}
use Rattle.answers.specs.Held.{Claim, fact_of, logic, memory, run, OneAnswer, OnePart, Tells, lent, part, one}
use Rattle.refusal.specs.Fault.{at as fault_at, nothing}

-- what each contract says
abbrev IsInSetSays : Claim IsInSet.ended
IsInSetSays κs a r s = fact_of ((IsInSet.clauses logic memory run κs a).ensures tt r s) (r_last _)

abbrev FaultOfSays : Claim FaultOf.ended
FaultOfSays κs a r s = fact_of ((FaultOf.clauses logic memory run κs a).ensures tt r s) (r_last _)

abbrev PartSays : Claim Part.ended
PartSays κs a r s = fact_of ((Part.clauses logic memory run κs a).ensures tt r s) (r_last _)

abbrev FaultSays : Claim Fault.ended
FaultSays κs a r s = fact_of ((Fault.clauses logic memory run κs a).ensures tt r s) (r_last _)

abbrev NumberSays : Claim Number.ended
NumberSays κs a r s = fact_of ((Number.clauses logic memory run κs a).ensures tt r s) (r_last _)

abbrev RuleSays : Claim Rule.ended
RuleSays κs a r s = fact_of ((Rule.clauses logic memory run κs a).ensures tt r s) (r_last _)

pub record CardContent (κ : Lft) : Type 0 where
  -- `is_in_set`: capture 7 refused; capture 0; a capture under an edition that has no row; another version; two blanks refused
  pub is_in_set : OneAnswer IsInSetSays
  pub set_capture_7 : Tells (IsInSetSays (one κ)) (Capture, (2, (lent (ascii "7"), tt))) true false
  pub set_capture_0 : Tells (IsInSetSays (one κ)) (Capture, (2, (lent (ascii "0"), tt))) false true
  pub set_capture_row : Tells (IsInSetSays (one κ)) (Capture, (3, (lent (ascii "1"), tt))) false true
  pub set_version : Tells (IsInSetSays (one κ)) (Version, (2, (lent (ascii "001.8d"), tt))) false true
  pub set_currency : Tells (IsInSetSays (one κ)) (Currency, (2, (lent (ascii "  "), tt))) true false
  -- of an adjustment: capture 8; capture 7 refused; a type 0
  pub set_adjustment_8 : Tells (IsInSetSays (one κ)) (AdjustmentCapture, (2, (lent (ascii "8"), tt))) false true
  pub set_adjustment_7 : Tells (IsInSetSays (one κ)) (AdjustmentCapture, (2, (lent (ascii "7"), tt))) true false
  pub set_adjustment_type : Tells (IsInSetSays (one κ)) (AdjustmentType, (2, (lent (ascii "0"), tt))) false true
  -- `fault_of`: 7 for a closed set; a star in the card refused; a day that is none taken
  pub fault_of_lem : OneAnswer FaultOfSays
  pub fault_of_set : Tells (FaultOfSays (one κ)) (OneOf Product, (2, (53, (lent (ascii "X"), tt)))) (fault_at ValueNotAllowed 53) (fault_at ByteNotAllowed 53)
  pub fault_of_card : Tells (FaultOfSays (one κ)) (Card, (2, (88, (lent (ascii "000123456****123456"), tt)))) nothing (fault_at ByteNotAllowed 88)
  pub fault_of_day : Tells (FaultOfSays (one κ)) (Day, (2, (30, (lent (ascii "20230229"), tt)))) (fault_at ValueNotAllowed 30) nothing
  -- AN: 127 and 159 taken, 160 refused; an accent taken in a card, a product and a currency
  pub fault_of_127 : Tells (FaultOfSays (one κ)) (Text, (2, (188, (lent (ascii "PA\u{7f}"), tt)))) (fault_at ByteNotAllowed 188) nothing
  pub fault_of_159 : Tells (FaultOfSays (one κ)) (Text, (2, (188, (lent (ascii "PA\u{9f}"), tt)))) (fault_at ByteNotAllowed 188) nothing
  pub fault_of_160 : Tells (FaultOfSays (one κ)) (Text, (2, (188, (lent (ascii "PA\u{a0}"), tt)))) nothing (fault_at ByteNotAllowed 188)
  pub fault_of_accent_card : Tells (FaultOfSays (one κ)) (Card, (2, (88, (lent (ascii "000123456é890123456"), tt)))) (fault_at ByteNotAllowed 88) nothing
  pub fault_of_accent_product : Tells (FaultOfSays (one κ)) (OneOf Product, (2, (53, (lent (ascii "Ç"), tt)))) (fault_at ValueNotAllowed 53) nothing
  pub fault_of_accent_currency : Tells (FaultOfSays (one κ)) (OneOf Currency, (2, (11, (lent (ascii "RÉ"), tt)))) (fault_at ValueNotAllowed 11) nothing
  -- where zeros are a day: zeros refused, a day that is none taken; where they are none: zeros taken
  pub fault_of_zeros : Tells (FaultOfSays (one κ)) (DayOrZeros, (2, (30, (lent (ascii "00000000"), tt)))) nothing (fault_at ValueNotAllowed 30)
  pub fault_of_no_day : Tells (FaultOfSays (one κ)) (DayOrZeros, (2, (30, (lent (ascii "20230229"), tt)))) (fault_at ValueNotAllowed 30) nothing
  pub fault_of_no_zeros : Tells (FaultOfSays (one κ)) (Day, (2, (52, (lent (ascii "00000000"), tt)))) (fault_at ValueNotAllowed 52) nothing
  -- where blanks are a card: blanks refused, digits and blanks taken; where they are none: blanks taken
  pub fault_of_blanks : Tells (FaultOfSays (one κ)) (CardOrBlanks, (2, (163, (lent (ascii blank_card), tt)))) nothing (fault_at ByteNotAllowed 163)
  pub fault_of_mixed : Tells (FaultOfSays (one κ)) (CardOrBlanks, (2, (163, (lent (ascii "   1234567890123456"), tt)))) (fault_at ByteNotAllowed 163) nothing
  pub fault_of_no_blanks : Tells (FaultOfSays (one κ)) (Card, (2, (88, (lent (ascii blank_card), tt)))) (fault_at ByteNotAllowed 88) nothing
  -- `Field::part`: a column late; other bytes with the same content
  pub parts : OnePart PartSays
  pub part_late : Tells (PartSays (one κ)) (field 3 8 Digits, (lent l9, tt)) (part 2 (ascii "000001")) (part 3 (ascii "000010"))
  pub part_elsewhere : Tells (PartSays (one κ)) (field 107 108 Digits, (lent sale, tt)) (part 106 (ascii "00")) (part 108 (ascii "00"))
  -- `Field::fault`: the edition not looked at; the last position as the column
  pub fault : OneAnswer FaultSays
  pub fault_edition : Tells (FaultSays (one κ)) (field 54 54 (OneOf Capture), (3, (lent sale, tt))) (fault_at ValueNotAllowed 54) nothing
  pub fault_column_lem : Tells (FaultSays (one κ)) (field 77 87 Digits, (2, (lent (at 80 "x" sale), tt))) (fault_at ByteNotAllowed 77) (fault_at ByteNotAllowed 87)
  -- `Field::number`: the last digit left out; the neighbour's number
  pub number : OneAnswer NumberSays
  pub number_cut : Tells (NumberSays (one κ)) (field 77 87 Digits, (lent sale, tt)) 9750 975
  pub number_neighbour : Tells (NumberSays (one κ)) (field 77 87 Digits, (lent sale, tt)) 9750 250
  -- `Field::rule`: a place counted from 0; a fault where the rule holds
  pub rule : OneAnswer RuleSays
  pub rule_column : Tells (RuleSays tt) (field 77 87 Digits, (AmountsDisagree, (false, tt))) (fault_at AmountsDisagree 77) (fault_at AmountsDisagree 76)
  pub rule_held : Tells (RuleSays tt) (field 77 87 Digits, (AmountsDisagree, (true, tt))) nothing (fault_at AmountsDisagree 77)
