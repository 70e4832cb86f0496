-- A FILE IN CHUNKS IS THE FILE: however its bytes are cut, empty chunks among them, opening, taking the chunks and ending answers as reading the whole does.
use Rattle.std.specs.Prelude.{ℕ, ◌≡◌, true}
use mathlib.Core.List.{List, [], ◌∷◌, ◌++◌, foldl}
use Rattle.refusal.specs.declared.Cause.TheVariants.{BytesAfterTheEnd}
use Rattle.refusal.specs.declared.Refusal.{Refusal}
use Rattle.chunks.specs.Chunks.{joined_chunks}
use Rattle.chunks.specs.Waiting.{waiting_in}
use Rattle.card_run.specs.Running.{next_number}
use Rattle.card_run.specs.Answer.{going_on_row, refused_row, card_file_row, CardAnswer}
use Rattle.card_file.specs.CardFile.{check_of}
use Rattle.card_stream.specs.declared.Stream.{Stream as CardStream}
use Rattle.card_stream.specs.Stream as card
use Rattle.card_mask.specs.Masked.{masked_file}
use Rattle.card_mask.specs.InChunks.{Copied, nothing_copied, copied_over}
use Rattle.adjustment_rows.specs.Rows.{csv_of}
use Rattle.adjustment_rows.specs.InChunks.{Tabled, only_header, tabled_over}
use Rattle.payroll_run.specs.State.{refusal_at}
use Rattle.payroll_file.specs.Answer as paper
use Rattle.payroll_file.specs.PayrollFile.{check_of as payroll_check_of}
use Rattle.payroll_stream.specs.declared.Stream.{Stream as PayrollStream}
use Rattle.payroll_stream.specs.Stream as payroll
use Rattle.demands.specs.Feeding.{after_the_end}
use Rattle.payroll_stream.specs.Stream.{PayrollProgress}

-- a card file and a payroll file of which these chunks have come
abbrev pub card_taken : ℕ → List (List ℕ) → CardStream
card_taken edition chunks = foldl card.taken_of (card.open_of edition) chunks

abbrev pub payroll_taken : List (List ℕ) → PayrollStream
payroll_taken chunks = foldl payroll.taken_of payroll.open_of chunks

-- their answers once they end, and what masking the chunks has written
abbrev pub card_in_chunks : ℕ → List (List ℕ) → CardAnswer
card_in_chunks edition chunks = card.answer_of (card.ended_of (card_taken edition chunks))

abbrev pub payroll_in_chunks : List (List ℕ) → PayrollProgress
payroll_in_chunks chunks = payroll.answer_of (payroll.ended_of (payroll_taken chunks))

abbrev pub copied_in_chunks : List (List ℕ) → Copied
copied_in_chunks chunks = foldl copied_over nothing_copied chunks

-- and what the rows of the chunks' adjustments have come to
abbrev pub tabled_in_chunks : List (List ℕ) → Tabled
tabled_in_chunks chunks = foldl tabled_over only_header chunks

pub record AsTheWhole : Type 0 where
  pub card_file_lem : (edition : ℕ) (chunks : List (List ℕ)) → card_file_row (card_in_chunks edition chunks) ≡ card_file_row (check_of edition (joined_chunks chunks))
  pub payroll_file_lem : (chunks : List (List ℕ)) → payroll.progress_row (payroll_in_chunks chunks) ≡ paper.payroll_row (payroll_check_of (joined_chunks chunks))
  -- "records from the first on": a refusal before the end is the whole file's, whatever comes behind, so that reading may stop there
  pub card_refused_early : (edition : ℕ) (chunks more : List (List ℕ)) (x : Refusal) → card_file_row (card.answer_of (card_taken edition chunks)) ≡ refused_row x →
      card_file_row (check_of edition (joined_chunks (chunks ++ more))) ≡ refused_row x
  pub payroll_refused_early : (chunks more : List (List ℕ)) (x : Refusal) → payroll.progress_row (payroll.answer_of (payroll_taken chunks)) ≡ paper.refused_row x →
      paper.payroll_row (payroll_check_of (joined_chunks (chunks ++ more))) ≡ paper.refused_row x
  -- what masking has written, with the unfinished record that waits, is the masked copy; of an accepted file none waits
  pub masked_copy : (chunks : List (List ℕ)) → (copied_in_chunks chunks).written ++ (copied_in_chunks chunks).waiting ≡ masked_file (joined_chunks chunks)
  pub accepted_copy : (edition : ℕ) (chunks : List (List ℕ)) → (card_file_row (check_of edition (joined_chunks chunks))).accepted ≡ true →
      copied_in_chunks chunks ≡ record { written = masked_file (joined_chunks chunks); waiting = [] }
  -- the rows that are written chunk by chunk are the file's
  pub csv : (chunks : List (List ℕ)) → (tabled_in_chunks chunks).written ≡ csv_of (joined_chunks chunks)
  -- on the way through an accepted file, with a buffer of 65,536 bytes, no line is let go: what waits in it is what waits here; and the stream gives the next record the number of its row
  pub on_the_way_lem : (edition : ℕ) (chunks : List (List ℕ)) (more : List ℕ) → (card_file_row (check_of edition (joined_chunks chunks ++ more))).accepted ≡ true →
      (waiting_in 65536 chunks ≡ (copied_in_chunks chunks).waiting) × (waiting_in 65536 chunks ≡ (tabled_in_chunks chunks).waiting) ×
      (next_number (card_taken edition chunks).state ≡ (tabled_in_chunks chunks).number)

-- a chunk or an end after the end, or after a refusal, in every state that a caller can hold
pub record AfterTheEnd : Type 0 where
  -- the end decides: the file is accepted or refused, and does not go on
  pub card_decided : (s : CardStream) → card_file_row (card.answer_of (card.ended_of s)) ≡ going_on_row → ⊥
  pub payroll_decided : (s : PayrollStream) → payroll.progress_row (payroll.answer_of (payroll.ended_of s)) ≡ paper.going_on_row → ⊥
  -- a further end changes nothing
  pub card_ended_again : (s : CardStream) → card_file_row (card.answer_of (card.ended_of (card.ended_of s))) ≡ card_file_row (card.answer_of (card.ended_of s))
  pub payroll_ended_again : (s : PayrollStream) → payroll.ended_of (payroll.ended_of s) ≡ payroll.ended_of s
  -- "Once refused, every later call gives that same refusal": before the end and behind it
  pub card_refused_lem : (s : CardStream) (x : Refusal) → card_file_row (card.answer_of s) ≡ refused_row x →
      ((chunk : List ℕ) → card_file_row (card.answer_of (card.taken_of s chunk)) ≡ refused_row x) × (card_file_row (card.answer_of (card.ended_of s)) ≡ refused_row x)
  pub payroll_refused_lem : (s : PayrollStream) (x : Refusal) → payroll.progress_row (payroll.answer_of s) ≡ paper.refused_row x →
      ((chunk : List ℕ) → payroll.progress_row (payroll.answer_of (payroll.taken_of s chunk)) ≡ paper.refused_row x) ×
      (payroll.progress_row (payroll.answer_of (payroll.ended_of s)) ≡ paper.refused_row x)
  -- after an accepted end an empty chunk changes nothing, and any byte is 13, "bytes after the end", "one past the last, 0"; as a refusal it stays
  pub card_accepted : (s : CardStream) → (card_file_row (card.answer_of s)).accepted ≡ true →
      (card_file_row (card.answer_of (card.taken_of s [])) ≡ card_file_row (card.answer_of s)) ×
      ((b : ℕ) (chunk : List ℕ) → card_file_row (card.answer_of (card.taken_of s (b ∷ chunk))) ≡ refused_row (after_the_end s.state))
  pub payroll_accepted_lem : (s : PayrollStream) → (payroll.progress_row (payroll.answer_of s)).accepted ≡ true →
      (payroll.taken_of s [] ≡ s) ×
      ((b : ℕ) (chunk : List ℕ) → payroll.progress_row (payroll.answer_of (payroll.taken_of s (b ∷ chunk))) ≡ paper.refused_row (refusal_at BytesAfterTheEnd 0 s.state))
