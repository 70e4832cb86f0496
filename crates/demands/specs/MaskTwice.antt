-- MASK TWICE, LOSE NOTHING: "Hubs mask what we have masked already." Of sales' and of adjustments' cards alike.
use Rattle.std.specs.Prelude.{ℕ, ◌≤◌, ◌≡◌, ◌↔◌, List, ◌++◌, true, length, take, drop}
use Rattle.pan.specs.AgreeOutside.{AgreeOutside}
use Rattle.card_run.specs.Answer.{card_file_row, CardAnswer}
use Rattle.card_mask.specs.Masked.{masked_record, masked_file}
use Rattle.card_mask.specs.Mask.{Masks}
use Rattle.demands.specs.HiddenDigits.{hidden_in}
use Rattle.demands.specs.ToldAlike.{ToldAlike}

-- a record, and a file, with its masked form
abbrev pub RecordAndMasked : List ℕ → List ℕ → Type 0
RecordAndMasked r s = s ≡ masked_record r

abbrev pub FileAndMasked : List ℕ → List ℕ → Type 0
FileAndMasked s t = t ≡ masked_file s

-- "have the same hidden places": places, whatever stands there
abbrev pub SameHiddenIn : List ℕ → List ℕ → Type 0
SameHiddenIn s t = (i : ℕ) → hidden_in s i ≡ hidden_in t i

pub record MaskTwice : Type 0 where
  -- "the masked copy of an accepted file is accepted under the same edition with the same counts, totals and day sheet": the masked form of every file gets the
  -- file's own answer, refusal and all, from each question of that list
  pub as_the_file : ToldAlike RecordAndMasked FileAndMasked
  -- "masking it again gives the same bytes"
  pub same_bytes_lem : (file : List ℕ) → masked_file (masked_file file) ≡ masked_file file
  -- of the question itself: the copy that it wrote, masked into any output with room, is written there, with the same answer
  pub written_again : (edition : ℕ) (file out other : List ℕ) (answer again : CardAnswer) (after after-again : List ℕ) →
      Masks edition file out answer after → (card_file_row answer).accepted ≡ true → length file ≤ length other →
      Masks edition (take (length file) after) other again after-again →
      (card_file_row again ≡ card_file_row answer) × (after-again ≡ take (length file) after ++ drop (length file) other)
  -- "two accepted files have equal masked copies exactly when they agree outside the hidden places and have the same hidden places": and so do any two files
  pub equal_copies : (s t : List ℕ) → (masked_file s ≡ masked_file t) ↔ (AgreeOutside (hidden_in s) s t × SameHiddenIn s t)
