-- TOLD ALIKE: records, and files, of which these questions tell the same, a field for each. Which records and which files is a parameter: those that differ
-- only in hidden digits (HiddenDigits), and a file and its masked form (MaskTwice). Of the programs `card`, `mask`, `sheet` and `adjustments` the list has what they print of a
-- card file: the text of its outcome, and on which descriptor (`printed`), and its line among many (`listed`). Which bytes a system call moved, and the mistakes that its answer gives, are the system's affair.
use Rattle.std.specs.Prelude.{ℕ, ◌≡◌, List, [], ◌∷◌, ◌++◌, length, take}
use Rattle.files.specs.Loaded.{Got}
use Rattle.chunks.specs.Chunks.{joined_chunks}
use Rattle.card_record.specs.Reading.{reading_of}
use Rattle.card_run.specs.declared.running.Running.{Running}
use Rattle.card_run.specs.Running.{open_of, closed_of}
use Rattle.card_run.specs.Answer.{card_file_row, CardAnswer}
use Rattle.card_file.specs.CardFile.{check_of}
use Rattle.card_file.specs.Feeding.{fed_all}
use Rattle.card_stream.specs.Stream as card
use Rattle.card_mask.specs.Masked.{MasksLines}
use Rattle.card_mask.specs.Mask.{Masks}
use Rattle.adjustment_rows.specs.declared.rows.Rows.{Rows}
use Rattle.adjustment_rows.specs.Rows.{csv_of, PutsRows}
use Rattle.file_list.specs.Line.{file_line}
use Rattle.card_program.specs.declared.verdict.Lines.{Lines}
use Rattle.card_program.specs.Listing.{said_of, words_of}
use Rattle.card_program.specs.Outcome.{outcome_at}
use Rattle.card_program.specs.Verdict.{verdict_text, outcome_text, descriptor_of}
use Rattle.card_sheet.specs.SheetOf.{SheetOf}
use Rattle.sale_field.specs.Field.{refusal_of, field_of, place_of_field, field_row}
use Rattle.demands.specs.Feeding.{Call, feed, close, called}
use Rattle.demands.specs.InChunks.{card_taken, card_in_chunks, copied_in_chunks, tabled_in_chunks}

-- for feeding: equally many records, each the other's
pub data AlikeLists (Alike : List ℕ → List ℕ → Type 0) : List (List ℕ) → List (List ℕ) → Type 0 where
  none : AlikeLists Alike [] []
  one_more : {r s : List ℕ} {rs ss : List (List ℕ)} → Alike r s → AlikeLists Alike rs ss → AlikeLists Alike (r ∷ rs) (s ∷ ss)

-- and equally many calls of every kind, in the same order
pub data AlikeCalls (Alike : List ℕ → List ℕ → Type 0) : List Call → List Call → Type 0 where
  no_call : AlikeCalls Alike [] []
  feeds : {r s : List ℕ} {cs ds : List Call} → Alike r s → AlikeCalls Alike cs ds → AlikeCalls Alike (feed r ∷ cs) (feed s ∷ ds)
  closes : {cs ds : List Call} → AlikeCalls Alike cs ds → AlikeCalls Alike (close ∷ cs) (close ∷ ds)

-- for chunks: equally much of two files has come, however it was cut, and more of each may follow
pub record ComeAlike (Alike : List ℕ → List ℕ → Type 0) (cs ds : List (List ℕ)) : Type 0 where
  pub more_of_one : List ℕ
  pub more_of_other : List ℕ
  pub files : Alike (joined_chunks cs ++ more_of_one) (joined_chunks ds ++ more_of_other)
  pub equally_much : length (joined_chunks cs) ≡ length (joined_chunks ds)

pub record ToldAlike (AlikeRecords AlikeFiles : List ℕ → List ℕ → Type 0) : Type 0 where
  -- what a record is read as
  pub reading : (edition : ℕ) (r s : List ℕ) → AlikeRecords r s → reading_of edition r ≡ reading_of edition s
  -- the state, and so the answer, after every number of records fed, and after the close
  pub fed : (edition : ℕ) (rs ss : List (List ℕ)) → AlikeLists AlikeRecords rs ss → (k : ℕ) →
      fed_all (open_of edition) (take k rs) ≡ fed_all (open_of edition) (take k ss)
  pub closed : (edition : ℕ) (rs ss : List (List ℕ)) → AlikeLists AlikeRecords rs ss →
      closed_of (fed_all (open_of edition) rs) ≡ closed_of (fed_all (open_of edition) ss)
  -- and after all calls of every kind, from every state
  pub after_calls : (st : Running) (cs ds : List Call) → AlikeCalls AlikeRecords cs ds → called st cs ≡ called st ds
  -- the verdict, the refusal, the counts and the totals of a file read whole
  pub whole : (edition : ℕ) (s t : List ℕ) → AlikeFiles s t → card_file_row (check_of edition s) ≡ card_file_row (check_of edition t)
  -- the answer of masking, and every byte of the output
  pub masks : (edition : ℕ) (s t out : List ℕ) → AlikeFiles s t → (answer-s answer-t : CardAnswer) (after-s after-t : List ℕ) →
      Masks edition s out answer-s after-s → Masks edition t out answer-t after-t → (card_file_row answer-s ≡ card_file_row answer-t) × (after-s ≡ after-t)
  -- and of masking lines where they stand: how many bytes the finished ones take, and every byte that it leaves
  pub masks_lines : (s t : List ℕ) → AlikeFiles s t → (answer-s answer-t : ℕ) (after-s after-t : List ℕ) →
      MasksLines s answer-s after-s → MasksLines t answer-t after-t → (answer-s ≡ answer-t) × (after-s ≡ after-t)
  -- the answer of a file in chunks, however the two are cut, and the bytes that masking it has written
  pub in_chunks : (edition : ℕ) (cs ds : List (List ℕ)) → AlikeFiles (joined_chunks cs) (joined_chunks ds) →
      card_file_row (card_in_chunks edition cs) ≡ card_file_row (card_in_chunks edition ds)
  pub copied : (cs ds : List (List ℕ)) → AlikeFiles (joined_chunks cs) (joined_chunks ds) →
      (copied_in_chunks cs).written ++ (copied_in_chunks cs).waiting ≡ (copied_in_chunks ds).written ++ (copied_in_chunks ds).waiting
  -- the answer so far, before the end
  pub so_far_lem : (edition : ℕ) (cs ds : List (List ℕ)) → ComeAlike AlikeFiles cs ds →
      card_file_row (card.answer_of (card_taken edition cs)) ≡ card_file_row (card.answer_of (card_taken edition ds))
  -- and what a caller keeps of the file: the state, and how many bytes of an unfinished record wait; those bytes themselves are the caller's own, as they came
  pub kept_so_far : (edition : ℕ) (cs ds : List (List ℕ)) → ComeAlike AlikeFiles cs ds →
      ((card_taken edition cs).state ≡ (card_taken edition ds).state) × ((card_taken edition cs).held.length ≡ (card_taken edition ds).held.length)
  -- and the bytes that masking has written so far
  pub written_so_far : (cs ds : List (List ℕ)) → ComeAlike AlikeFiles cs ds → (copied_in_chunks cs).written ≡ (copied_in_chunks ds).written
  -- the answer of that much, read as a whole file, and its text: by the contract of a program's work (`Checked`) its answer is that of the bytes that it took
  pub taken_so_far : (edition : ℕ) (lines : Lines) (cs ds : List (List ℕ)) → ComeAlike AlikeFiles cs ds →
      (card_file_row (check_of edition (joined_chunks cs)) ≡ card_file_row (check_of edition (joined_chunks ds))) ×
      (verdict_text lines (check_of edition (joined_chunks cs)) ≡ verdict_text lines (check_of edition (joined_chunks ds)))
  -- what comes of the last read, whatever it gave: the text that a program prints of the file, and on which descriptor
  pub printed : (edition : ℕ) (lines : Lines) (cs ds : List (List ℕ)) → ComeAlike AlikeFiles cs ds → (got : Got) →
      (outcome_text lines (outcome_at got (card_taken edition cs)) ≡ outcome_text lines (outcome_at got (card_taken edition ds))) ×
      (descriptor_of (outcome_at got (card_taken edition cs)) ≡ descriptor_of (outcome_at got (card_taken edition ds)))
  -- and its line among many, under whatever name, and how it is counted there
  pub listed : (edition : ℕ) (cs ds : List (List ℕ)) → ComeAlike AlikeFiles cs ds → (got : Got) (name : List ℕ) →
      (file_line (words_of (outcome_at got (card_taken edition cs))) name ≡ file_line (words_of (outcome_at got (card_taken edition ds))) name) ×
      (said_of (outcome_at got (card_taken edition cs)) ≡ said_of (outcome_at got (card_taken edition ds)))
  -- the CSV of a file's adjustments; the question that puts rows: its answer, and every byte that it leaves; and the rows that are written so far
  pub csv : (s t : List ℕ) → AlikeFiles s t → csv_of s ≡ csv_of t
  pub puts_rows : (number : ℕ) (s t out : List ℕ) → AlikeFiles s t → (answer-s answer-t : Rows) (after-s after-t : List ℕ) →
      PutsRows number s out answer-s after-s → PutsRows number t out answer-t after-t → (answer-s ≡ answer-t) × (after-s ≡ after-t)
  pub rows_so_far : (cs ds : List (List ℕ)) → ComeAlike AlikeFiles cs ds → (tabled_in_chunks cs).written ≡ (tabled_in_chunks ds).written
  -- the answer of a file's day sheet, and every byte of the output
  pub sheets : (edition : ℕ) (s t out : List ℕ) → AlikeFiles s t → (answer-s answer-t : CardAnswer) (after-s after-t : List ℕ) →
      SheetOf edition s out answer-s after-s → SheetOf edition t out answer-t after-t → (card_file_row answer-s ≡ card_file_row answer-t) × (after-s ≡ after-t)
  -- the refusal of the field question, the part that it hands back, and where in the record that begins
  pub field : (r s : List ℕ) → AlikeRecords r s → (number : ℕ) →
      (field_row (refusal_of r number) ≡ field_row (refusal_of s number)) × (field_of r number ≡ field_of s number) × (place_of_field r number ≡ place_of_field s number)
