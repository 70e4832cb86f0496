-- Records, and files, with one masked form are told alike: each question tells of the masked form what it tells of the record or the file (MaskedRecords,
-- MaskedFields, MaskedFiles), and of a file that is still coming what it tells of as much of the masked form (ComeAlike).
use Prim.Native.Nat.{ℕ, zero, suc, ◌+◌, min}
use mathlib.Core.Path.{◌≡◌, refl, sym, ◌∙◌, ap, ap₂}
use mathlib.Core.List.{List, ◌++◌}
use lib.ListN.{length, take, drop}
use Rattle.refusal.specs.Rules.{first_broken}
use Rattle.chunks.specs.Chunks.{joined_chunks}
use Rattle.lines.specs.Lines.{cut, finished_in}
use Rattle.wording.specs.Put.{over_at}
use Rattle.card_record.specs.Reading.{reading_of}
use Rattle.card_run.specs.declared.running.Running.{Running}
use Rattle.card_run.specs.Running.{open_of, closed_of}
use Rattle.card_run.specs.Answer.{card_file_row, CardAnswer}
use Rattle.card_file.specs.CardFile.{check_of}
use Rattle.card_file.specs.Feeding.{fed_of, fed_all}
use Rattle.card_file.specs.Room.{room_rules, answer_behind, answer_with_room}
use Rattle.card_stream.proofs.InChunks.{chunks_as_whole}
use Rattle.card_mask.specs.Masked.{masked_record, masked_file}
use Rattle.card_mask.specs.Mask.{mask_answer, masked_into}
use Rattle.card_mask.proofs.InChunks.{masked_length, copied_as_whole}
use Rattle.adjustment_rows.specs.Row.{header}
use Rattle.adjustment_rows.specs.Rows.{rows_of}
use Rattle.file_list.specs.Line.{file_line}
use Rattle.card_program.specs.Listing.{said_of, words_of}
use Rattle.card_program.specs.Verdict.{verdict_text, outcome_text, descriptor_of}
use Rattle.card_sheet.specs.SheetOf.{sheet_into}
use Rattle.sale_field.specs.Field.{refusal_of, field_of, place_of_field, field_row}
use Rattle.demands.specs.Feeding.{Call, called}
use Rattle.demands.specs.ToldAlike.{AlikeLists, none, one_more, AlikeCalls, no_call, feeds, closes, ComeAlike, ToldAlike}
use Rattle.demands.proofs.MaskedRecords.{same_reading}
use Rattle.demands.proofs.MaskedFields.{same_refusal, same_field, same_place}
use Rattle.demands.proofs.MaskedFiles.{same_fed, same_check, same_finished}
use Rattle.demands.proofs.MaskedRows.{same_rows_of_file}
use Rattle.demands.proofs.ComeAlike.{written_alike, rows_written_alike, state_alike, waiting_alike, so_far_alike, printed_alike, taken_alike}
use Rattle.std.specs.Prelude.{Err, None, Ok, Some}

-- where a form is told as what it is the form of, all that share the form are told alike
pub alike : {A : Type 0} (form : List ℕ → List ℕ) (tell : List ℕ → A) → ((s : List ℕ) → tell (form s) ≡ tell s) → {s t : List ℕ} → form s ≡ form t → tell s ≡ tell t
alike form tell own {s} {t} e = sym (own s) ∙ ap tell e ∙ own t

-- two files with one masked form: the answer, the length, and a question that writes, by the room that it needs
module _ (s t : List ℕ) (e : masked_file s ≡ masked_file t) where
  check_alike : (edition : ℕ) → check_of edition s ≡ check_of edition t
  check_alike edition = alike masked_file (check_of edition) (same_check edition) e

  length_alike : length s ≡ length t
  length_alike = alike masked_file length masked_length e

  room_alike : (edition need room : ℕ) → answer_with_room edition s need room ≡ answer_with_room edition t need room
  unfolding answer_with_room
  room_alike edition need room = ap (λ answer. answer_behind (first_broken (room_rules edition need room)) answer) (check_alike edition)

  -- the rows of its adjustments
  rows_alike : (number : ℕ) → rows_of number (cut s).pieces ≡ rows_of number (cut t).pieces
  rows_alike number = alike masked_file (λ file. rows_of number (cut file).pieces) (same_rows_of_file number) e

  mask_alike : (edition room : ℕ) → mask_answer edition s room ≡ mask_answer edition t room
  mask_alike edition room = room_alike edition (length s) room ∙ ap (λ need. answer_with_room edition t need room) length_alike

  -- what masking leaves in the output
  output_alike : (answer : CardAnswer) (out : List ℕ) → masked_into answer s out ≡ masked_into answer t out
  unfolding masked_into
  output_alike None out = refl
  output_alike (Some (Ok a)) out = ap₂ (λ copy wide. copy ++ drop wide out) e length_alike
  output_alike (Some (Err x)) out = refl

module _ (AlikeRecords AlikeFiles : List ℕ → List ℕ → Type 0)
    (records : (r s : List ℕ) → AlikeRecords r s → masked_record r ≡ masked_record s)
    (files : (s t : List ℕ) → AlikeFiles s t → masked_file s ≡ masked_file t) where
  -- one record fed, in every state, and one after the other
  fed_alike : (st : Running) {r s : List ℕ} → AlikeRecords r s → fed_of st r ≡ fed_of st s
  fed_alike st {r} {s} w = alike masked_record (fed_of st) (same_fed st) (records r s w)

  feeding_alike : (st : Running) {rs ss : List (List ℕ)} → AlikeLists AlikeRecords rs ss → fed_all st rs ≡ fed_all st ss
  unfolding fed_all
  feeding_alike st none = refl
  feeding_alike st (one_more {s = s} {rs = rs} {ss = ss} w ws) = ap (λ next. fed_all next rs) (fed_alike st w) ∙ feeding_alike (fed_of st s) ws

  -- the first k of them
  first_alike : (k : ℕ) {rs ss : List (List ℕ)} → AlikeLists AlikeRecords rs ss → AlikeLists AlikeRecords (take k rs) (take k ss)
  first_alike zero ws = none
  first_alike (suc k) none = none
  first_alike (suc k) (one_more w ws) = one_more w (first_alike k ws)

  -- one call after the other
  calls_alike : (st : Running) {cs ds : List Call} → AlikeCalls AlikeRecords cs ds → called st cs ≡ called st ds
  unfolding called
  calls_alike st no_call = refl
  calls_alike st (feeds {s = s} {cs = cs} w ws) = ap (λ next. called next cs) (fed_alike st w) ∙ calls_alike (fed_of st s) ws
  calls_alike st (closes ws) = calls_alike (closed_of st) ws

  -- equally much of two files with one masked form
  come_alike : {cs ds : List (List ℕ)} → ComeAlike AlikeFiles cs ds → ComeAlike (λ s t. masked_file s ≡ masked_file t) cs ds
  come_alike w =
      record {
        more_of_one = w.more_of_one;
        more_of_other = w.more_of_other;
        files = files _ _ w.files;
        equally_much = w.equally_much;
      }

  pub told_alike : ToldAlike AlikeRecords AlikeFiles
  told_alike =
      record {
        reading = λ edition r s w. alike masked_record (reading_of edition) (same_reading edition) (records r s w);
        fed = λ edition rs ss ws k. feeding_alike (open_of edition) (first_alike k ws);
        closed = λ edition rs ss ws. ap closed_of (feeding_alike (open_of edition) ws);
        after_calls = λ st cs ds ws. calls_alike st ws;
        whole = λ edition s t w. ap card_file_row (check_alike s t (files s t w) edition);
        masks = λ edition s t out w a b after-s after-t m n.
            let e = files s t w in
            let answers = mask_alike s t e edition (length out) in (
              ap card_file_row (m.answers ∙ answers ∙ sym n.answers),
              m.leaves ∙ ap (λ answer. masked_into answer s out) answers ∙ output_alike s t e (mask_answer edition t (length out)) out ∙ sym n.leaves,
            );
        masks_lines = λ s t w a b after-s after-t m n.
            let e = files s t w in
            (m.counts ∙ alike masked_file finished_in same_finished e ∙ sym n.counts, m.leaves ∙ e ∙ sym n.leaves);
        in_chunks = λ edition cs ds w.
            let s = joined_chunks cs in
            let t = joined_chunks ds in
            ap card_file_row (chunks_as_whole edition cs ∙ check_alike s t (files s t w) edition ∙ sym (chunks_as_whole edition ds));
        copied = λ cs ds w. copied_as_whole cs ∙ files (joined_chunks cs) (joined_chunks ds) w ∙ sym (copied_as_whole ds);
        so_far_lem = λ edition cs ds w. ap card_file_row (so_far_alike cs ds (come_alike w) edition);
        kept_so_far = λ edition cs ds w. (state_alike cs ds (come_alike w) edition, waiting_alike cs ds (come_alike w) edition);
        written_so_far = λ cs ds w. written_alike cs ds (come_alike w);
        taken_so_far = λ edition lines cs ds w.
            let same = taken_alike cs ds (come_alike w) edition in
            (ap card_file_row same, ap (verdict_text lines) same);
        printed = λ edition lines cs ds w got.
            let same = printed_alike cs ds (come_alike w) edition got in
            (ap (outcome_text lines) same, ap descriptor_of same);
        listed = λ edition cs ds w got name.
            let same = printed_alike cs ds (come_alike w) edition got in
            (ap (λ outcome. file_line (words_of outcome) name) same, ap said_of same);
        csv = λ s t w. ap (λ rows. header ++ rows) (rows_alike s t (files s t w) 1);
        puts_rows = λ number s t out w a b after-s after-t m n.
            let e = files s t w in
            let same = rows_alike s t e number in
            let lines = m.counts ∙ alike masked_file finished_in same_finished e ∙ sym n.counts in
            let size = m.puts.ends ∙ ap (λ rows. min (0 + length rows) (length out)) same ∙ sym n.puts.ends in (
              λ i. record { lines = lines i; size = size i },
              m.puts.leaves ∙ ap (λ rows. over_at 0 rows out) same ∙ sym n.puts.leaves,
            );
        rows_so_far = λ cs ds w. rows_written_alike cs ds (come_alike w);
        sheets = λ edition s t out w a b after-s after-t m n.
            let answers = room_alike s t (files s t w) edition 81 (length out) in (
              ap card_file_row (m.answers ∙ answers ∙ sym n.answers),
              m.leaves ∙ ap (λ answer. sheet_into edition answer out) answers ∙ sym n.leaves,
            );
        field = λ r s w number. (
          ap field_row (alike masked_record (λ l. refusal_of l number) (λ l. same_refusal l number) (records r s w)),
          alike masked_record (λ l. field_of l number) (λ l. same_field l number) (records r s w),
          alike masked_record (λ l. place_of_field l number) (λ l. same_place l number) (records r s w),
        );
      }
