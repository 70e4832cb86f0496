-- The contracts of the programs' libraries rule wrong answers out: an answer is that of some bytes, and the laws of every answer hold of it.
use Prim.Native.Nat.{ℕ}
use mathlib.Core.Path.{◌≡◌, refl, sym, ◌∙◌, ap}
use mathlib.Core.List.{List, []}
use mathlib.Core.Bool.{true}
use native.Mathlib.Omega.{arith}
use borrow.Author.Tests.{lt-ltb}
use base.Fml.{Lft}
use Rattle.refusal.specs.declared.Cause.{Cause}
use Rattle.refusal.specs.Nowhere.{nowhere}
use Rattle.refusal.specs.Rules.{first_broken}
use Rattle.text.specs.Alphabet.{allowed, holds_only, first_stray}
use Rattle.text.specs.Number.{value_from}
use Rattle.text.specs.Literal.{same_bytes, has_byte, one_byte_of}
use Rattle.calendar.specs.Month.{days_in}
use Rattle.calendar.specs.Day.{is_day}
use Rattle.calendar.specs.Time.{is_time}
use Rattle.calendar.specs.When.{when_rules}
use Rattle.pan.specs.CardField.{well_formed}
use Rattle.lines.specs.Lines.{in_front, cut, joined, ends_in_cr, without_last}
use Rattle.card_content.specs.Content.{in_set, content_rules}
use Rattle.card_content.specs.Field.{table_rules, record_rules}
use Rattle.card_sale.specs.Cv.{joined_rules}
use Rattle.card_record.specs.Kind.{kind_named}
use Rattle.card_record.specs.Reading.{right_reading, judged_as, read_found}
use Rattle.card_run.specs.Answer.{answer_at, CardAnswer}
use Rattle.card_run.specs.Running.{closed_at, late_at}
use Rattle.card_step.specs.Rules.{joined_at, rules_of}
use Rattle.card_step.specs.Behind.{behind}
use Rattle.card_step.specs.Step.{behind_or_refused, took_at}
use Rattle.card_file.specs.CardFile.{unended_at, lines_of, end_of, check_of}
use Rattle.card_stream.specs.Stream.{with_held}
use Rattle.card_kept.proofs.KeptMeansKept.{kept_means_kept, plain_numbers_lem}
use Rattle.payroll_record.specs.Field.{number_rules}
use Rattle.payroll_record.specs.Front.{stray_at}
use Rattle.payroll_record.specs.Kind.{segment_named, kind_named as payroll_kind_named}
use Rattle.payroll_record.specs.Reading.{read_as, read_found as payroll_read_found}
use Rattle.payroll_step.specs.Rules.{found_rules, due_rules, rules_of as payroll_run_rules}
use Rattle.payroll_run.specs.Behind.{behind_detail_as, behind as payroll_behind}
use Rattle.payroll_step.specs.Step.{behind_or_refused as payroll_behind_or_refused, took_at as payroll_took_at}
use Rattle.payroll_file.specs.PayrollFile.{lines_of as payroll_lines_of, ended_of, end_at, check_of as payroll_check_of}
use Rattle.payroll_file.specs.declared.answer.Accepted.{Accepted as PayrollNumbers}
use Rattle.payroll_stream.specs.Stream.{so_far, answer_at as payroll_answer_at}
use Rattle.payroll_kept.specs.Numbers.{Numbers}
use Rattle.payroll_kept.proofs.KeptMeansKept as payroll
use Rattle.day_sheet.specs.Number.{in_base, value_in}
use Rattle.sheet_numbers.specs.declared.sheet.Sheet.{Sheet}
use Rattle.sheet_numbers.specs.declared.sheet.Sheet.TheVariants.{Version1, Version2}
use Rattle.day_sheet.specs.Layout.{in_places, from_places, digits_right}
use Rattle.day_sheet.specs.Sheet.{sheet_row, bytes_of}
use Rattle.sheet_numbers.specs.Allowed.{within_limits, set_allowed, sets_allowed, heading_allowed, none_of, split_allowed, sheet_allowed}
use Rattle.day_sheet.specs.Reading.{read_as as sheet_as, read_of}
use Rattle.sheet_numbers.specs.Converted.{converted}
use Rattle.day_sheet.proofs.RoundTrip.{read_allowed}
use Rattle.sheet_numbers.proofs.Conversions.{converted_allowed}
use Rattle.sheet_program.specs.SheetRead.{converted_read}
use Rattle.edition.specs.Known.{edition_fault}
use Rattle.edition.proofs.Editions.{unknown_fault, retired_fault}
use Rattle.card_kept.proofs.FirstFault.{edition_first}
use Rattle.wording.specs.Number.{digits_within}
use Rattle.wording.specs.Line.{word_of, line_of, refused_line}
use Rattle.card_program.specs.Verdict.{led_line, totals_text, sets_text, accepted_text}
use Rattle.card_program.specs.Outcome.{outcome_at}
use Rattle.payroll_program.specs.Outcome.{outcome_at as payroll_outcome_at}
use Rattle.answers.specs.DaySheet.{sheet_of, both_sets}
use Rattle.answers.specs.Programs.{Programs, made_up}
use Rattle.answers.specs.Held.{Runtime, Opened}
use Rattle.answers.specs.Samples.{card_file, payroll_file}
use Rattle.answers.proofs.Told.{equal, told, bit}
use Rattle.answers.proofs.Observed.{argument_read, answer_read, card_outcome_read, outcome_read, sheet_kind, split_read}
use Rattle.refusal.specs.Fault.{at}
use Rattle.day_sheet.specs.Reading.{SheetRead}
use Rattle.std.specs.Prelude.{Err, Ok, Some}

-- no file has totals that disagree
disagreeing : (bytes : List ℕ) → made_up ≡ check_of 2 bytes → ⊥
disagreeing bytes e =
    let kept = (kept_means_kept 2 bytes).0 (record { numbers = _; answer = sym e }) in
    told (λ n. n) refl (plain_numbers_lem 2 bytes _ (sym e) kept).settled.agree

-- what every file gets under an edition that is refused
under : (edition : ℕ) {cause : Cause} {column : ℕ} {x : CardAnswer} → edition_fault edition ≡ at cause column → (bytes : List ℕ) → x ≡ check_of edition bytes →
    x ≡ Some (Err (nowhere cause))
under edition bad bytes e = e ∙ edition_first edition bad bytes

-- what was converted tells no split as known, and is allowed
no_split : (r : SheetRead) → Ok both_sets ≡ converted_read r → ⊥
unfolding converted
no_split (Ok (Version1 heading totals)) e = told split_read refl e
no_split (Ok (Version2 heading split sets)) e = told split_read refl e
no_split (Err refusal) e = told split_read refl e

converted_right : (bytes : List ℕ) (r : SheetRead) (s : Sheet) → read_of bytes ≡ r → Ok s ≡ converted_read r → sheet_allowed s ≡ true
converted_right bytes (Ok t) s e f =
    let same : s ≡ converted t = cc in
    ap sheet_allowed same ∙ converted_allowed t (read_allowed bytes t e)
converted_right bytes (Err refusal) s e f = absurd (told sheet_kind refl f)

-- the numbers of every accepted payroll file are the plain ones of its records
plain : (bytes : List ℕ) (a : PayrollNumbers) (e : Ok a ≡ payroll_check_of bytes) →
    Numbers ((payroll.kept_means_kept bytes).0 (record { numbers = a; answer = sym e })).file a
plain bytes a e = payroll.plain_numbers_lem bytes a (sym e) ((payroll.kept_means_kept bytes).0 (record { numbers = a; answer = sym e }))

pub programs : (κ : Lft) (rt : Runtime) (file : Opened) → Programs κ rt file
unfolding first_broken allowed holds_only first_stray value_from same_bytes has_byte one_byte_of days_in is_day is_time when_rules well_formed in_front cut joined ends_in_cr without_last in_set content_rules table_rules record_rules joined_rules kind_named right_reading judged_as read_found answer_at joined_at rules_of behind behind_or_refused took_at closed_at unended_at lines_of end_of number_rules stray_at segment_named payroll_kind_named read_as payroll_read_found found_rules due_rules payroll_run_rules behind_detail_as payroll_behind payroll_behind_or_refused payroll_took_at payroll_lines_of ended_of end_at in_base value_in in_places from_places digits_right sheet_row bytes_of within_limits set_allowed sets_allowed heading_allowed none_of split_allowed sheet_allowed sheet_as read_of converted late_at digits_within word_of line_of refused_line led_line totals_text sets_text accepted_text outcome_at payroll_outcome_at with_held so_far payroll_answer_at
programs κ rt file =
    record {
      eleven_lines_lem = refl;
      one_line = refl;
      argument_of_lem = λ κs a r r' s s' p q. equal p q;
      argument_of_long = (refl, told argument_read refl);
      argument_of_whole = (refl, told argument_read refl);
      argument_room = ((omega arith, refl), λ p. omega (arith, p.0));
      three_room = (((omega arith, refl), (omega arith, refl), (omega arith, refl)), λ p. omega (arith, p.2.0));
      decided = λ κs a r r' s s' p q. equal p q;
      decided_going_on = (refl, told bit refl);
      decided_refused = (refl, told bit refl);
      accepts = λ κs a r r' s s' p q. equal p q;
      accepts_refused = (refl, told bit refl);
      accepts_mistake = (refl, told bit refl);
      outcome_at_lem = λ κs a r r' s s' p q. equal p q;
      outcome_failed = (refl, told card_outcome_read refl);
      outcome_early = (refl, told card_outcome_read refl);
      check_totals = ((card_file, refl), λ p. disagreeing p.0 p.1);
      check_edition = (([], refl), λ p. told answer_read refl (under 3 (unknown_fault 3 refl) p.0 p.1));
      check_file_totals = ((card_file, refl), λ p. disagreeing p.0 p.1);
      check_file_edition = (([], refl), λ p. told answer_read refl (under 3 (unknown_fault 3 refl) p.0 p.1));
      check_file_amount = ((payroll_file, refl), λ p. told bit refl (lt-ltb _ _ (plain p.0 _ p.1).amount_below));
      check_file_records = ((payroll_file, refl), λ p. told bit refl (lt-ltb _ _ (plain p.0 _ p.1).records_below));
      work_edition = (([], refl), λ p. told answer_read refl (under 3 (unknown_fault 3 refl) p.0 p.1));
      work_retired = (([], refl), λ p. told answer_read refl (under 1 (retired_fault 1 refl) p.0 p.1));
      work_word = (refl, told card_outcome_read refl);
      work_number = ((card_file, refl), λ p. p);
      mask_edition = (([], refl), λ p. told answer_read refl (under 3 (unknown_fault 3 refl) p.0 p.1));
      mask_retired = (([], refl), λ p. told answer_read refl (under 1 (retired_fault 1 refl) p.0 p.1));
      mask_word = (refl, told card_outcome_read refl);
      mask_totals = ((card_file, refl), λ p. disagreeing p.0 p.1);
      rows_edition = (([], refl), λ p. told answer_read refl (under 3 (unknown_fault 3 refl) p.0 p.1));
      rows_word = (refl, told card_outcome_read refl);
      write_edition = (([], refl), λ p. told answer_read refl (under 3 (unknown_fault 3 refl) p.0 p.1));
      write_retired = (([], refl), λ p. told answer_read refl (under 1 (retired_fault 1 refl) p.0 p.1));
      write_word = (refl, told card_outcome_read refl);
      write_totals = ((card_file, refl), λ p. disagreeing p.0 p.1);
      sheet_edition_lem = ((bytes_of (sheet_of 2 9750), refl), λ p. told bit refl (read_allowed p.0 _ (sym p.1)));
      sheet_amounts = ((bytes_of (sheet_of 2 9750), refl), λ p. told bit refl (read_allowed p.0 _ (sym p.1)));
      convert_split = ((bytes_of (sheet_of 2 9750), refl), λ p. no_split (read_of p.0) p.1);
      convert_edition = ((bytes_of (sheet_of 2 9750), refl), λ p. told bit refl (converted_right p.0 (read_of p.0) _ refl p.1));
      decided_payroll = λ κs a r r' s s' p q. equal p q;
      decided_payroll_going_on = (refl, told bit refl);
      decided_payroll_refused = (refl, told bit refl);
      payroll_at_lem = λ κs a r r' s s' p q. equal p q;
      payroll_failed = (refl, told outcome_read refl);
      payroll_early = (refl, told outcome_read refl);
      check_amount = ((payroll_file, refl), λ p. told bit refl (lt-ltb _ _ (plain p.0 _ p.1).amount_below));
      check_records = ((payroll_file, refl), λ p. told bit refl (lt-ltb _ _ (plain p.0 _ p.1).records_below));
    }
