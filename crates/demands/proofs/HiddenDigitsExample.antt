-- There are twins that differ, by computation: starred at the hidden digits of both, two files are the same.
use Prim.Native.Nat.{ℕ}
use mathlib.Core.Path.{◌≡◌, refl, ap}
use mathlib.Core.List.{List}
use mathlib.Core.Bool.{Bool, true, ◌&&◌}
use native.Mathlib.Omega.{arith}
use lib.ListN.{get_or}
use Rattle.refusal.specs.Rules.{first_broken}
use Rattle.text.specs.Alphabet.{digit, allowed, holds_only}
use Rattle.text.specs.Number.{value_from}
use Rattle.text.specs.Literal.{same_bytes, has_byte, one_byte_of}
use Rattle.calendar.specs.Month.{days_in}
use Rattle.calendar.specs.Day.{is_day}
use Rattle.calendar.specs.Time.{is_time}
use Rattle.calendar.specs.When.{when_rules}
use Rattle.pan.specs.CardField.{well_formed, leading_zeros}
use Rattle.pan.specs.HiddenPlaces.{hidden_places}
use Rattle.pan.specs.Masked.{star_where}
use Rattle.pan.proofs.Stars.{equal_stars}
use Rattle.lines.specs.Lines.{in_front, cut, joined, ends_in_cr, without_last}
use Rattle.card_content.specs.Content.{in_set, day_or_zeros_rules, card_or_blanks_rules, content_rules}
use Rattle.card_content.specs.Field.{table_rules, record_rules}
use Rattle.card_sale.specs.Cv.{joined_rules}
use Rattle.card_adjustment.specs.Aj.{joined_rules as adjustment_rules}
use Rattle.card_record.specs.CardPart.{card_part_found}
use Rattle.card_record.specs.Kind.{kind_named}
use Rattle.card_record.specs.Reading.{right_reading, judged_as, read_found}
use Rattle.card_run.specs.Answer.{answer_at}
use Rattle.card_run.specs.Running.{closed_at, late_at}
use Rattle.card_step.specs.Rules.{joined_at, rules_of}
use Rattle.card_step.specs.Behind.{behind}
use Rattle.card_step.specs.Step.{behind_or_refused, took_at}
use Rattle.card_file.specs.CardFile.{lines_of, end_of, check_of}
use Rattle.card_run.specs.Answer.{card_file_row}
use Rattle.demands.specs.HiddenDigits.{hidden_at, hidden_in_pieces, hidden_in, TwinFiles}
use Rattle.demands.specs.HiddenDigitsExample.{one_file, other_file, one_credit, other_credit, TwinsThatDiffer}

-- the hidden digits of both files
picked : List ℕ → List ℕ → ℕ → Bool
picked one other i = (hidden_in one i && digit (get_or one i 0)) && (hidden_in other i && digit (get_or other i 0))

twins : TwinFiles one_file other_file
unfolding picked allowed holds_only same_bytes well_formed leading_zeros hidden_places star_where in_front cut joined ends_in_cr without_last kind_named card_part_found hidden_at hidden_in_pieces
twins = (equal_stars (picked one_file other_file) one_file other_file).0 refl

credit_twins : TwinFiles one_credit other_credit
unfolding picked allowed holds_only same_bytes well_formed leading_zeros hidden_places star_where in_front cut joined ends_in_cr without_last kind_named card_part_found hidden_at hidden_in_pieces
credit_twins = (equal_stars (picked one_credit other_credit) one_credit other_credit).0 refl

accepted : (card_file_row (check_of 2 one_file)).accepted ≡ true
unfolding card_file_row first_broken allowed holds_only value_from same_bytes has_byte one_byte_of days_in is_day is_time when_rules well_formed leading_zeros in_front cut joined ends_in_cr without_last in_set day_or_zeros_rules card_or_blanks_rules content_rules joined_rules adjustment_rules table_rules record_rules kind_named right_reading judged_as read_found answer_at joined_at rules_of behind behind_or_refused took_at closed_at lines_of end_of late_at
accepted = refl

credit_accepted : (card_file_row (check_of 2 one_credit)).accepted ≡ true
unfolding card_file_row first_broken allowed holds_only value_from same_bytes has_byte one_byte_of days_in is_day is_time when_rules well_formed leading_zeros in_front cut joined ends_in_cr without_last in_set day_or_zeros_rules card_or_blanks_rules content_rules joined_rules adjustment_rules table_rules record_rules kind_named right_reading judged_as read_found answer_at joined_at rules_of behind behind_or_refused took_at closed_at lines_of end_of late_at
credit_accepted = refl

differ : one_file ≡ other_file → ⊥
unfolding joined
differ e = let z = ap (λ s. get_or s 193 0) e in omega arith

credits_differ : one_credit ≡ other_credit → ⊥
unfolding joined
credits_differ e = let z = ap (λ s. get_or s 268 0) e in omega arith

pub twins_that_differ : TwinsThatDiffer one_file other_file
twins_that_differ = record { accepted = accepted; twins = twins; differ = differ }

pub credits_that_differ : TwinsThatDiffer one_credit other_credit
credits_that_differ = record { accepted = credit_accepted; twins = credit_twins; differ = credits_differ }
