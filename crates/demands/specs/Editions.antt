-- AN EDITION UNDER WHICH NO FILE IS READ: one refusal at 0, 0 for every file, whatever it holds, wherever it is checked, and before 2.
use Rattle.std.specs.Prelude.{ℕ, ◌≡◌, List}
use Rattle.refusal.specs.declared.Cause.{Cause}
use Rattle.refusal.specs.Nowhere.{nowhere}
use Rattle.card_run.specs.Running.{open_of}
use Rattle.card_run.specs.Answer.{refused_row, card_file_row, CardAnswer}
use Rattle.card_file.specs.CardFile.{check_of}
use Rattle.card_stream.specs.Stream as card
use Rattle.card_mask.specs.Mask.{Masks}
use Rattle.card_sheet.specs.SheetOf.{SheetOf}
use Rattle.demands.specs.Feeding.{RefusedForGood}
use Rattle.demands.specs.InChunks.{card_taken, card_in_chunks}

pub record RefusedOutright (edition : ℕ) (cause : Cause) : Type 0 where
  -- a file read whole
  pub whole : (file : List ℕ) → card_file_row (check_of edition file) ≡ refused_row (nowhere cause)
  -- fed: "from the start", before any call, and after every one
  pub fed : RefusedForGood (open_of edition) (nowhere cause)
  -- in chunks: before the first, after each, and at the end
  pub in_chunks : (chunks : List (List ℕ)) → card_file_row (card.answer_of (card_taken edition chunks)) ≡ refused_row (nowhere cause)
  pub ended : (chunks : List (List ℕ)) → card_file_row (card_in_chunks edition chunks) ≡ refused_row (nowhere cause)
  -- masked, and asked for its day sheet, whatever is lent as output
  pub masked : (file out : List ℕ) (answer : CardAnswer) (after : List ℕ) → Masks edition file out answer after →
      (card_file_row answer ≡ refused_row (nowhere cause)) × (after ≡ out)
  pub sheet : (file out : List ℕ) (answer : CardAnswer) (after : List ℕ) → SheetOf edition file out answer after →
      (card_file_row answer ≡ refused_row (nowhere cause)) × (after ≡ out)
