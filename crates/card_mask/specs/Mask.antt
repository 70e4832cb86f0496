-- Masking a file: 1 and 22; 2 for an output shorter than the file, before any record; then the file's own refusals.
use Rattle.std.specs.Prelude.{ℕ, ◌≡◌, List, ◌++◌, length, drop, Err, None, Ok, Some}
use Rattle.card_file.specs.Room.{answer_with_room}
use Rattle.card_mask.specs.Masked.{masked_file}
use Rattle.card_run.specs.Answer.{CardAnswer}

-- the copy needs as much room as the file is long
abbrev pub mask_answer : ℕ → List ℕ → ℕ → CardAnswer
mask_answer edition file room = answer_with_room edition file (length file) room

-- of an accepted file "the masked copy"; "output past the file's length is unchanged"; refused, "lent output is unchanged"
unfoldable pub masked_into : CardAnswer → List ℕ → List ℕ → List ℕ
masked_into None file out = out
masked_into (Some (Ok a)) file out = masked_file file ++ drop (length file) out
masked_into (Some (Err r)) file out = out

-- the answer, and the output at the end
pub record Masks (edition : ℕ) (file out : List ℕ) (answer : CardAnswer) (after : List ℕ) : Type 0 where
  pub answers : answer ≡ mask_answer edition file (length out)
  pub leaves : after ≡ masked_into (mask_answer edition file (length out)) file out
