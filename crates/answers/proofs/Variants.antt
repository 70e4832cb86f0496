-- The variants of the demands do not hold: each is refuted on a file or a state, by computation.
use Prim.Native.Nat.{ℕ, suc}
use mathlib.Core.Path.{◌≡◌, refl, sym, ◌∙◌, ap}
use mathlib.Core.List.{List, [], ◌∷◌, ◌++◌, map}
use mathlib.Core.Bool.{true, ◌&&◌, false≢true}
use native.Mathlib.Omega.{arith}
use lib.ListN.{length, get_or, take, drop, replicate, length-append}
use lib.Dec.{lit<, lit≤}
use Rattle.refusal.specs.declared.Cause.TheVariants.{EditionRetired, SequenceWrong}
use Rattle.refusal.specs.Nowhere.{nowhere}
use Rattle.refusal.specs.Rules.{first_broken, all_hold}
use Rattle.text.specs.Alphabet.{digit, allowed, holds_only, first_stray}
use Rattle.text.specs.Number.{value_from}
use Rattle.text.specs.Literal.{ascii, same_bytes, has_byte, one_byte_of}
use Rattle.text.specs.Weighed.{weighed, zeros_weighed}
use Rattle.calendar.specs.Month.{days_in}
use Rattle.calendar.specs.Day.{is_day}
use Rattle.calendar.specs.Time.{is_time}
use Rattle.calendar.specs.When.{when_rules}
use Rattle.pan.specs.CardField.{well_formed, leading_zeros}
use Rattle.pan.specs.HiddenPlaces.{hidden_places}
use Rattle.pan.specs.Masked.{star_where}
use Rattle.pan.proofs.Stars.{equal_stars}
use Rattle.lines.specs.Lines.{in_front, cut, no_lf, all_no_lf, joined, with_cr, ends_in_cr, without_last, rejoined}
use Rattle.first_fault.specs.InTurn.{pieces_hold, ComesBehind}
use Rattle.card_content.specs.Content.{in_set, day_or_zeros_rules, card_or_blanks_rules, content_rules}
use Rattle.card_content.specs.Field.{table_rules, record_rules}
use Rattle.card_sale.specs.Cv.{joined_rules}
use Rattle.card_adjustment.specs.Aj.{joined_rules as adjustment_rules}
use Rattle.card_record.specs.CardPart.{card_part_found}
use Rattle.card_record.specs.declared.kind.Kind.TheVariants.{A0}
use Rattle.card_record.specs.Kind.{kind_named}
use Rattle.card_record.specs.Reading.{right_reading, judged_as, read_found}
use Rattle.card_quick.specs.Quick.{none_above, least, greatest, in_picture, sets_right, days_right, surely_right}
use Rattle.card_run.specs.Answer.{answer_at, answer_of, card_file_row}
use Rattle.card_run.specs.Running.{no_numbers, closed_at, late_at}
use Rattle.card_step.specs.Rules.{joined_at, rules_of}
use Rattle.card_step.specs.Behind.{behind}
use Rattle.card_step.specs.Step.{behind_or_refused, took_at}
use Rattle.card_file.specs.CardFile.{unended_at, lines_of, end_of}
use Rattle.card_run.specs.declared.stage.Stage.TheVariants.{InBatch, Refused}
use Rattle.card_run.specs.Running.{open_of}
use Rattle.card_file.specs.Feeding.{fed_all}
use Rattle.card_file.specs.Room.{answer_with_room}
use Rattle.card_kept.specs.FirstFault.{rules_behind}
use Rattle.card_kept.specs.Kept.{sum_over, picked}
use Rattle.card_kept.specs.State.{how_many, transactions_in}
use Rattle.card_mask.specs.Masked.{masked_at, masked_file}
use Rattle.card_mask.specs.Mask.{masked_into}
use Rattle.card_sheet.specs.SheetOf.{sheet_into}
use Rattle.chunks.specs.Unfinished.{clipped_with}
use Rattle.chunks.specs.Chunks.{held_before, joined_chunks}
use Rattle.card_stream.specs.Stream.{open_of as stream_open, behind_end, with_held}
use Rattle.wording.specs.Put.{over, over_at}
use Rattle.wording.specs.Number.{digits_within}
use Rattle.wording.specs.Line.{word_of, line_of, refused_line}
use Rattle.adjustment_rows.specs.Fields.{doubled, quoted, amount_text, separated}
use Rattle.adjustment_rows.specs.Row.{header, day_text, type_text, row_of}
use Rattle.adjustment_rows.specs.Rows.{row_in, rows_of}
use Rattle.file_list.specs.Line.{file_line}
use Rattle.card_program.specs.Outcome.{outcome_at}
use Rattle.payroll_record.specs.Field.{number_rules}
use Rattle.payroll_record.specs.Front.{stray_at}
use Rattle.payroll_record.specs.Kind.{segment_named, kind_named as payroll_kind_named}
use Rattle.payroll_record.specs.Reading.{read_as, read_found as payroll_read_found}
use Rattle.payroll_step.specs.Rules.{found_rules, due_rules, rules_of as payroll_run_rules}
use Rattle.payroll_run.specs.Behind.{behind_detail_as, behind as payroll_behind}
use Rattle.payroll_step.specs.Step.{behind_or_refused as payroll_behind_or_refused, took_at as payroll_took_at}
use Rattle.payroll_file.specs.PayrollFile.{
  unended_at as payroll_unended_at,
  lines_of as payroll_lines_of,
  ended_of,
  cut_short_of,
  end_at,
}
use Rattle.payroll_file.specs.Answer.{no_numbers as no_payroll_numbers, payroll_row, state_row}
use Rattle.payroll_kept.specs.FirstFault.{is_one_of}
use Rattle.payroll_kept.specs.FirstFaultOfFile.{rules_behind as payroll_rules_behind}
use Rattle.payroll_kept.specs.State.{those, amounts_of}
use Rattle.payroll_stream.specs.Stream.{so_far, answer_at as progress_at, progress_row}
use Rattle.payroll_stream.specs.Feeding.{open_feeding, fed_at as feeding_at, closed_at as feeding_closed_at}
use Rattle.payroll_run.specs.declared.stage.Stage.TheVariants.{Refused as payroll_refused}
use Rattle.payroll_run.specs.State.{opened, moved}
use Rattle.day_sheet.specs.Number.{in_base, value_in}
use Rattle.day_sheet.specs.Layout.{in_places, from_places, digits_right}
use Rattle.day_sheet.specs.Sheet.{sheet_row, bytes_of}
use Rattle.sheet_numbers.specs.Allowed.{within_limits, set_allowed, sets_allowed, heading_allowed, none_of, split_allowed, sheet_allowed}
use Rattle.day_sheet.specs.Reading.{read_as as sheet_as, read_of}
use Rattle.day_sheet.specs.Writing.{put_answer, put_result, write_answer, write_result}
use Rattle.sheet_numbers.specs.Converted.{converted}
use Rattle.day_sheet.specs.Conversion.{convert_answer, convert_result}
use Rattle.day_sheet.specs.Answer.{read_row}
use Rattle.state_numbers.specs.CardState.{state_numbers, stage_of, state_of}
use Rattle.state_numbers.specs.PayrollState.{feeding_numbers, stage_of as payroll_stage_of, running_of, progress_of}
use Rattle.demands.specs.Demands.{Demands}
use Rattle.demands.specs.Examples.{as_written, all_as_written}
use Rattle.demands.specs.Feeding.{called}
use Rattle.demands.specs.HiddenDigits.{TwinFiles, hidden_at, hidden_in_record, hidden_in_pieces, hidden_in}
use Rattle.demands.specs.HiddenDigitsExample.{one_file, other_file, one_credit}
use Rattle.demands.specs.PayrollFeeding.{payroll_called}
use Rattle.demands.specs.RowsOfFile.{plain_rows}
use Rattle.demands.specs.ToldAlike.{ComeAlike}
use Rattle.demands.proofs.TwinLaws.{twins_changed}
use Rattle.answers.specs.CardRun.{state, refusal, one_sale}
use Rattle.answers.specs.DaySheet.{sheet_of, both_sets}
use Rattle.demands.specs.ExampleFile.{a0, l9, file_of}
use Rattle.answers.specs.Samples.{at, sale, card_file, credit, debit, adjusted_file, two_batches, file_header, batch_header, payment, batch_trailer, file_trailer, payroll_file, two_payroll_batches}
use Rattle.answers.specs.Variants.{Variants}
use Rattle.answers.proofs.Observed.{sheet_written}
use Rattle.answers.proofs.Told.{told, bit}
use Rattle.std.specs.Prelude.{None, Ok, Some, Err}

-- no number is one more than itself: 0 is no record of a file
not_first : (n : ℕ) → 0 ≡ suc n → ⊥
not_first n e = omega arith

-- nor is a text itself with the header in front
not_longer : (s : List ℕ) → header ++ s ≡ s → ⊥
not_longer s e = omega (arith, simp length-append at (ap length e))

-- the example's L9 comes behind three pieces,
abbrev before_l9 : List (List ℕ)
before_l9 = take 3 (cut card_file).pieces

-- and the trailer of a payroll file behind four
abbrev before_trailer : List (List ℕ)
before_trailer = take 4 (cut payroll_file).pieces

pub variants : (d : Demands) → Variants d
unfolding first_broken all_hold pieces_hold how_many transactions_in picked sum_over no_lf all_no_lf weighed zeros_weighed none_above least greatest in_picture sets_right days_right surely_right those amounts_of is_one_of allowed holds_only value_from same_bytes has_byte one_byte_of days_in is_day is_time when_rules well_formed leading_zeros hidden_places star_where in_front cut joined ends_in_cr without_last rejoined in_set day_or_zeros_rules card_or_blanks_rules content_rules table_rules record_rules joined_rules adjustment_rules card_part_found kind_named right_reading judged_as read_found answer_at card_file_row joined_at rules_of behind behind_or_refused took_at closed_at unended_at lines_of end_of late_at fed_all answer_with_room masked_at masked_into sheet_into clipped_with held_before joined_chunks behind_end with_held over over_at digits_within word_of line_of refused_line doubled quoted amount_text separated day_text type_text row_of row_in rows_of plain_rows file_line outcome_at first_stray number_rules stray_at segment_named payroll_kind_named read_as payroll_read_found found_rules due_rules payroll_run_rules behind_detail_as payroll_behind payroll_behind_or_refused payroll_took_at payroll_unended_at payroll_lines_of ended_of cut_short_of end_at payroll_row state_row in_base value_in in_places from_places digits_right sheet_row bytes_of within_limits set_allowed sets_allowed heading_allowed none_of split_allowed sheet_allowed sheet_as read_of put_answer put_result write_answer write_result converted convert_answer convert_result read_row as_written all_as_written called payroll_called feeding_at feeding_closed_at progress_at so_far progress_row stage_of state_numbers state_of payroll_stage_of feeding_numbers running_of progress_of hidden_at hidden_in_pieces
variants d =
    let cut-within-the-card : ComeAlike TwinFiles (take 196 one_file ∷ []) (take 196 other_file ∷ []) =
    record { more_of_one = drop 196 one_file; more_of_other = drop 196 other_file; files = d.twins_that_differ.twins; equally_much = refl } in
    let l9-comes : ComesBehind (rules_behind 2) card_file before_l9 (with_cr l9) = record { later = drop 4 (cut card_file).pieces; split = refl; all_hold_lem = refl } in
    let trailer-comes : ComesBehind payroll_rules_behind payroll_file before_trailer (with_cr file_trailer) = record { later = []; split = refl; all_hold_lem = refl } in
    record {
      record_judged = λ wrong.
          let x = refusal SequenceWrong 3 194 in
          told (λ n. n) refl (((wrong (state (Refused x) 5 one_sale) sale).is_refused_lem x).0 refl).number;
      edition_first = λ wrong. told (λ row. row.refusal.number) refl ((wrong 1 refl).whole []);
      edition_retired = λ wrong. told (λ row. row.refusal.number) refl ((wrong 3 refl).whole []);
      retired_when_fed = λ wrong. told (λ row. row.refusal.number) refl (wrong 1 refl a0);
      file_judged = λ wrong. not_first _ (((wrong 1 refl []).is_refused_lem (nowhere EditionRetired)).0 refl).number;
      state_known = λ wrong. told (λ st. (card_file_row (answer_of st)).refusal.number) refl (wrong 2 refl ([] ∷ []) refl).is;
      since_header_lem = λ wrong.
          told (λ b. b.transactions) refl (wrong 2 refl (cut two_batches).pieces refl ((d.file_judged 2 refl two_batches).is_accepted_lem.0 refl).pieces_hold_lem);
      million_pieces = λ wrong. told (λ row. bit row.accepted) refl (wrong 2 refl card_file (lit≤ tt)).1;
      millionth_record = λ wrong.
          told (λ n. n) refl
          (wrong 2 card_file [] (with_cr a0) refl (record { later = drop 1 (cut card_file).pieces; split = refl; all_hold_lem = refl }) A0 refl refl);
      too_large = λ wrong. told (λ row. bit row.accepted) refl ((wrong 2 card_file before_l9 (lit≤ tt)).by_eleven (with_cr l9) refl l9-comes refl refl);
      of_sales = λ wrong. told (λ row. bit row.accepted) refl ((wrong 2 card_file before_l9 refl (refl, tt)).by_eleven (with_cr l9) refl l9-comes refl refl);
      below_zero = λ wrong. told (λ row. bit row.accepted) refl ((wrong 2 card_file before_l9 (lit≤ tt)).by_eleven (with_cr l9) refl l9-comes refl refl);
      payroll_record_judged = λ wrong.
          let x = refusal SequenceWrong 3 4 in
          told (λ n. n) refl (((wrong (moved (payroll_refused x) 5 1 1 10000 opened.batch opened) payment).is_refused_lem x).0 refl).number;
      payroll_file_judged = λ wrong.
          let file = joined (file_header ∷ batch_header ∷ payment ∷ batch_trailer ∷ file_trailer ∷ []) in
          false≢true ((wrong file).1 ((d.payroll_file_judged payroll_file).is_accepted_lem.0 refl).pieces_hold_lem);
      payroll_state_known = λ wrong. told (λ st. (state_row st.stage).refusal.number) refl (wrong ([] ∷ [])).is;
      payroll_amount = λ wrong.
          told (λ n. n) refl (wrong (cut two_payroll_batches).pieces ((d.payroll_file_judged two_payroll_batches).is_accepted_lem.0 refl).pieces_hold_lem);
      payroll_sum = λ wrong.
          told (λ row. bit row.accepted) refl
          ((wrong payroll_file (take 3 (cut payroll_file).pieces) (lit≤ tt)).in_any_case (with_cr batch_trailer)
          (record { later = drop 4 (cut payroll_file).pieces; split = refl; all_hold_lem = refl }) refl).1;
      payroll_total = λ wrong. told (λ row. bit row.accepted) refl ((wrong payroll_file before_trailer (lit≤ tt)).in_any_case (with_cr file_trailer) trailer-comes refl).1;
      payroll_records = λ wrong. told (λ row. bit row.accepted) refl ((wrong payroll_file before_trailer (lit≤ tt)).in_any_case (with_cr file_trailer) trailer-comes refl).1;
      payroll_top = λ wrong. told (λ n. n) refl (wrong 18_446_744_073_709_551_616);
      refused_leaves_alone = λ wrong.
          told (λ s. get_or s 0 0) refl (wrong 2 card_file (replicate (length card_file) 0) _ _ (record { answers = refl; leaves = refl }));
      card_rules_kept = λ wrong. false≢true ((wrong 3 card_file).1 ((d.card_rules_kept.exactly 2 card_file).0 refl));
      card_numbers_lem = λ wrong.
          let file = file_of (at 44 "0" sale) in
          let kept = (d.card_rules_kept.exactly 2 file).0 refl in
          told (λ t. t.sales) refl ((wrong 2 file kept).plain ∙ sym (d.card_rules_kept.numbers 2 file kept).both.plain);
      payroll_rules_kept = λ wrong. false≢true ((d.payroll_rules_kept.exactly (payroll_file ++ (26 ∷ []))).1 ((wrong payroll_file).0 refl));
      sheet_there_and_back = λ wrong. told (λ row. row.refusal.number) refl (wrong (sheet_of 3 9750));
      the_one_we_write = λ wrong. told sheet_written refl (wrong (bytes_of (sheet_of 1 9750)) (sheet_of 1 9750) refl).answers;
      the_one_conversion_writes = λ wrong. told (λ s. get_or s 52 0) refl (wrong (bytes_of both_sets) both_sets refl).leaves;
      none_new = λ wrong. told sheet_written refl (wrong (sheet_of 2 9750) []).answers;
      sheets_different = λ wrong. told (λ s. get_or (sheet_row s) 1 0) refl (wrong (sheet_of 2 9750) (sheet_of 258 9750) refl refl);
      sheet_converted = λ wrong. told (λ row. row.refusal.number) refl (wrong (sheet_of 3 9750));
      as_written_lem = λ wrong.
          told sheet_written refl (wrong (bytes_of (sheet_of 1 9750)) (sheet_of 1 9750) refl (replicate 81 0) _ _ (record { answers = refl; leaves = refl })).answers;
      from_two_and_back = λ wrong. told (λ s. get_or s 52 0) refl (wrong (bytes_of both_sets) refl);
      both_sets_added = λ wrong. told (λ s. get_or s 4 0) refl (wrong 2 card_file ((d.card_rules_kept.exactly 2 card_file).0 refl));
      rows_alone = λ wrong.
          let kept = (d.card_rules_kept.exactly 2 adjusted_file).0 refl in
          not_longer _ (sym (d.rows_of_file.rows 2 adjusted_file kept) ∙ wrong 2 adjusted_file kept);
      rows_as_many = λ wrong. told (λ n. n) refl (wrong 2 adjusted_file ((d.card_rules_kept.exactly 2 adjusted_file).0 refl));
      rows_no_card = λ wrong. told (λ s. get_or s 50 0) refl (wrong 3 credit (at 80 "X" credit) (record { before = refl; behind = refl }));
      rows_no_byte_lost = λ wrong. told (λ s. get_or s 0 0) refl (wrong (ascii "a") (ascii "b") refl);
      one_line_each = λ wrong. told (λ ps. get_or (get_or ps 0 []) 0 0) refl (wrong [] (ascii "\n"));
      fed_as_whole = λ wrong. told (λ row. row.refusal.number) refl (wrong 2 (ascii "A0\n" ∷ [])).closed;
      refused_for_good = λ wrong. told (λ row. row.refusal.number) refl (wrong (open_of 2) (refusal SequenceWrong 3 194) []);
      after_accepted_close = λ wrong. told (λ row. row.refusal.number) refl (wrong (state InBatch 3 one_sale)).close_more;
      one_past_the_last = λ wrong. told (λ n. n) refl (wrong 3 (sale ∷ []));
      payroll_fed_as_whole = λ wrong. told (λ row. row.refusal.number) refl ((wrong (ascii "0\n" ∷ [])).closed [] refl);
      payroll_rest = λ wrong. told (λ row. row.refusal.number) refl (wrong (ascii "0\r\n"));
      payroll_before_close = λ wrong. told (λ row. row.refusal.number) refl (wrong [] refl);
      payroll_refused_for_good = λ wrong. told (λ row. row.refusal.number) refl (wrong open_feeding (refusal SequenceWrong 3 9) []);
      payroll_after_accepted_close = λ wrong. told (λ row. row.refusal.number) refl ((wrong open_feeding).close_more []);
      in_chunks = λ wrong. told (λ row. row.refusal.number) refl (wrong 2 []);
      csv_chunk_by_chunk = λ wrong. told length refl (wrong []);
      on_the_way_lem = λ wrong. told (λ n. n) refl (wrong 2 (ascii "A\n" ∷ []));
      after_the_end_lem = λ wrong. told (λ row. row.refusal.number) refl (wrong (stream_open 2) 65 []);
      card_back_and_there = λ wrong. told length refl (wrong []);
      payroll_back_and_there = λ wrong. told length refl (wrong []);
      card_stream_back_and_there = λ wrong. told (λ k. length k.numbers) refl (wrong (record { numbers = []; waiting = 0; bytes = [] }));
      payroll_stream_back_and_there = λ wrong. told (λ k. length k.numbers) refl (wrong (record { numbers = []; waiting = 0; bytes = [] }));
      numbers_so_far = λ wrong. told (λ l. get_or l 0 0) refl (wrong 2 []);
      card_records_by_numbers = λ wrong. told (λ row. get_or row 0 0) refl (wrong 2 (ascii "A0\n" ∷ []));
      payroll_records_by_numbers = λ wrong. told (λ row. get_or row 0 0) refl (wrong [] (ascii "0\r\n") refl);
      card_chunks_by_numbers = λ wrong. told (λ row. get_or row 0 0) refl (wrong 2 []);
      payroll_chunks_by_numbers = λ wrong. told (λ row. get_or row 0 0) refl (wrong []);
      not_opened = λ wrong. told (λ row. get_or row 0 0) refl (wrong (0 ∷ 5 ∷ []) refl);
      card_row = λ wrong. told (λ answer. bit (card_file_row answer).accepted) refl (wrong (Some (Ok no_numbers)) None refl);
      payroll_row_lem = λ wrong. told (λ progress. bit (progress_row progress).accepted) refl (wrong (Some (Ok no_payroll_numbers)) None refl);
      hidden_digits_reach_nothing = λ wrong. told (λ row. bit row.accepted) refl (wrong 2 card_file (file_of (at 77 "00000009751" sale)) refl);
      masks_lines = λ wrong.
          told (λ n. n) refl (wrong (ascii "\n") (ascii "A") refl _ _ _ _ (record { counts = refl; leaves = refl }) (record { counts = refl; leaves = refl }));
      so_far_lem = λ wrong.
          told (λ row. row.refusal.number) refl
          (wrong 2 [] (ascii "A\n" ∷ []) (ascii "A\n") [] (record { same_length = refl; same_byte = λ i k f. refl }));
      kept_so_far = λ wrong. told (λ s. get_or s 96 0) refl (wrong 2 (take 196 one_file ∷ []) (take 196 other_file ∷ []) cut-within-the-card);
      waits_so_far = λ wrong. told (λ s. get_or s 96 0) refl (wrong (take 196 one_file ∷ []) (take 196 other_file ∷ []) cut-within-the-card);
      taken_so_far = λ wrong.
          told (λ s. get_or s 8 0) refl (wrong 2 [] (ascii "A\n" ∷ []) (ascii "A\n") [] (record { same_length = refl; same_byte = λ i k f. refl }));
      printed = λ wrong.
          told (λ s. get_or s 0 0) refl
          (wrong 2 [] []
          (record { more_of_one = []; more_of_other = []; files = record { same_length = refl; same_byte = λ i k f. refl }; equally_much = refl }) (Ok None) (Err 0));
      listed = λ wrong.
          told (λ s. get_or s 29 0) refl
          (wrong 2 [] [] (record { more_of_one = []; more_of_other = []; files = record { same_length = refl; same_byte = λ i k f. refl }; equally_much = refl }) (Ok None)
          (ascii "a") (ascii "b"));
      csv = λ wrong. told (λ s. get_or s 124 0) refl (wrong (with_cr credit ++ ascii "\n") (with_cr debit ++ ascii "\n") refl);
      puts_rows = λ wrong.
          told (λ s. get_or s 38 0) refl
          (wrong 3 (with_cr credit ++ ascii "\n") (with_cr debit ++ ascii "\n") (replicate 39 0) refl _ _ _ _
          (record { counts = refl; puts = record { ends = refl; leaves = refl } }) (record { counts = refl; puts = record { ends = refl; leaves = refl } }));
      rows_so_far = λ wrong.
          told length refl (wrong [] ((with_cr credit ++ ascii "\n") ∷ []) (with_cr credit ++ ascii "\n") [] (record { same_length = refl; same_byte = λ i k f. refl }));
      record_twins_made = λ wrong.
          let other = at 97 "A" sale in
          let agree = (equal_stars (λ i. hidden_in_record sale i && digit (get_or sale i 0)) sale other).0 refl in
          told (λ n. n) refl ((wrong sale other agree).same_byte 96 (lit< tt) refl);
      file_twins_made = λ wrong.
          let other = file_of (at 88 "0001234567890123457" sale) in
          let twins = (equal_stars (λ i. digit (get_or card_file i 0) && digit (get_or other i 0)) card_file other).0 refl in
          told (λ n. n) refl ((wrong card_file other (twins_changed (λ i. true) (λ i. true) twins)).same_byte 202 (lit< tt) refl);
      same_way = λ wrong. told bit refl (wrong 2 sale (at 3 "É" sale) refl);
      same_ways = λ wrong. told (λ ways. get_or (map bit ways) 2 0) refl (wrong 2 card_file (file_of (at 3 "É" sale)) refl);
      same_sizes = λ wrong. told length refl (wrong (ascii "\n") (ascii "A") refl);
      masked_where_hidden = λ wrong. told (λ n. n) refl (sym ((d.masked_where_hidden card_file).at_each 192 (lit< tt)) ∙ wrong card_file 192);
      as_the_file = λ wrong. told (λ row. row.refusal.number) refl (wrong 2 card_file 0);
      sheet_of_copy = λ wrong.
          told (λ s. get_or s 0 0) refl
          (wrong 2 3 card_file (replicate 81 0) _ _ _ _ (record { answers = refl; leaves = refl }) (record { answers = refl; leaves = refl }));
      masked_in_chunks = λ wrong. told (λ row. bit row.accepted) refl (wrong 2 (card_file ∷ []) (masked_file card_file ∷ []) refl);
      copied_chunk_by_chunk = λ wrong. told (λ s. get_or s 193 0) refl (wrong (take 190 card_file ∷ drop 190 card_file ∷ []));
      same_bytes_lem = λ wrong. told (λ s. get_or s 193 0) refl (wrong card_file);
      written_again = λ wrong.
          told length refl
          (wrong 2 card_file (replicate (length card_file) 0) [] _ _ _ _ (record { answers = refl; leaves = refl }) refl (record { answers = refl; leaves = refl }));
      equal_copies = λ wrong.
          let other = file_of (at 97 "A" sale) in
          told (λ s. get_or s 193 0) refl ((wrong card_file other).1 ((equal_stars (hidden_in card_file) card_file other).0 refl));
      equal_but_for_digits = λ wrong.
          let twins = (wrong 2 one_credit (masked_file one_credit) refl refl).0 (sym (d.mask_twice.same_bytes_lem one_credit)) in
          told (λ n. n) refl (twins.same_byte 268 (lit< tt) refl);
      twins_that_differ = d.twins_that_differ.differ;
      credits_that_differ = d.credits_that_differ.differ;
      examples_hold = λ wrong. false≢true wrong;
    }
