-- DEMAND 2 FOR DAY SHEETS: there and back in both versions, from one version to the other, and the sheet of a card file.
use Rattle.std.specs.Prelude.{ℕ, ◌≤◌, ◌≡◌, ◌↔◌, List, ◌++◌, true, length, drop, Err, Ok}
use Rattle.std.proofs.Math.Pow.{are_bytes}
use Rattle.refusal.specs.declared.Cause.TheVariants.{EditionRetired}
use Rattle.refusal.specs.Nowhere.{nowhere}
use Rattle.refusal.specs.Row.{no_refusal}
use Rattle.edition.specs.Known.{current, retired}
use Rattle.card_run.specs.Answer.{card_file_row}
use Rattle.card_file.specs.CardFile.{check_of}
use Rattle.card_kept.specs.Kept.{Kept}
use Rattle.sheet_numbers.specs.declared.sheet.Sheet.{Sheet}
use Rattle.day_sheet.specs.Sheet.{bytes_of}
use Rattle.sheet_numbers.specs.Edition.{sheet_edition}
use Rattle.sheet_numbers.specs.Allowed.{sheet_allowed}
use Rattle.day_sheet.specs.Reading.{read_of}
use Rattle.day_sheet.specs.Writing.{PutInto, Writes}
use Rattle.sheet_numbers.specs.Converted.{converted}
use Rattle.day_sheet.specs.Conversion.{Converts, converted_bytes}
use Rattle.day_sheet.specs.Answer.{read_row}
use Rattle.day_sheet.specs.Writing.{SheetWritten}
use Rattle.card_sheet.specs.SheetOf.{sheet_from}
use Rattle.card_sheet.specs.PlainSheet.{plain_sheet, plain_sheet1}

-- sheets of either version
pub record SheetThereAndBack : Type 0 where
  -- "A day sheet that we write reads back as the same numbers"
  pub reads_back : (s : Sheet) → sheet_allowed s ≡ true → read_row (read_of (bytes_of s)) ≡ read_row (Ok s)
  -- a readable sheet is the bytes of its numbers, which are allowed
  pub its_bytes : (l : List ℕ) (s : Sheet) → are_bytes l ≡ true → read_row (read_of l) ≡ read_row (Ok s) → (bytes_of s ≡ l) × (sheet_allowed s ≡ true)
  -- "and a readable sheet is the one we would write", "for edition 2": writing its numbers writes its bytes into any output with room
  pub the_one_we_write : (l : List ℕ) (s : Sheet) → are_bytes l ≡ true → read_row (read_of l) ≡ read_row (Ok s) → current (sheet_edition s) ≡ true →
      (out : List ℕ) → length l ≤ length out → Writes s out (Ok tt) (l ++ drop (length l) out)
  -- "for edition 1 it holds through conversion only, for version 1 and for version 2 with split 0" (of either edition): converting its other version writes its bytes
  pub the_one_conversion_writes : (l : List ℕ) (s : Sheet) → are_bytes l ≡ true → read_row (read_of l) ≡ read_row (Ok s) → (read_row (Ok s)).split ≡ 0 →
      (out : List ℕ) → length l ≤ length out → Converts (converted_bytes l) out (Ok tt) (l ++ drop (length l) out)
  -- "writing a new sheet with edition 1 gives 22", whatever its numbers and the output
  pub none_new : (s : Sheet) → retired (sheet_edition s) ≡ true → (out : List ℕ) → Writes s out (Err (nowhere EditionRetired)) out
  -- two different allowed sheets have different bytes
  pub different : (s t : Sheet) → sheet_allowed s ≡ true → sheet_allowed t ≡ true → bytes_of s ≡ bytes_of t → s ≡ t

-- the bytes of a readable sheet in the other version
pub record SheetConverted : Type 0 where
  -- they are readable, as the sheet that it becomes
  pub readable : (l : List ℕ) (s : Sheet) → read_row (read_of l) ≡ read_row (Ok s) → read_row (read_of (converted_bytes l)) ≡ read_row (Ok (converted s))
  -- what converting answers and leaves is what putting that sheet does, whatever its edition: 2 alone comes after reading
  pub as_put : (l : List ℕ) (s : Sheet) → read_row (read_of l) ≡ read_row (Ok s) → (out : List ℕ) (answer : SheetWritten) (after : List ℕ) →
      Converts l out answer after → PutInto (converted s) out answer after
  -- and its numbers are allowed, so that of edition 2 it is what writing that sheet does
  pub as_written_lem : (l : List ℕ) (s : Sheet) → read_row (read_of l) ≡ read_row (Ok s) → current (sheet_edition s) ≡ true →
      (out : List ℕ) (answer : SheetWritten) (after : List ℕ) → Converts l out answer after → Writes (converted s) out answer after
  pub allowed : (l : List ℕ) (s : Sheet) → read_row (read_of l) ≡ read_row (Ok s) → sheet_allowed (converted s) ≡ true
  -- "From 1 to 2 and back gives the same bytes"
  pub from_one_and_back : (l : List ℕ) → are_bytes l ≡ true → (read_row (read_of l)).refusal ≡ no_refusal → (read_row (read_of l)).version ≡ 1 →
      converted_bytes (converted_bytes l) ≡ l
  -- and 2 to 1 and back exactly where the split is not known
  pub from_two_and_back : (l : List ℕ) → are_bytes l ≡ true → (read_row (read_of l)).refusal ≡ no_refusal → (read_row (read_of l)).version ≡ 2 →
      (converted_bytes (converted_bytes l) ≡ l) ↔ ((read_row (read_of l)).split ≡ 0)

-- the sheet of an accepted file
pub record SheetOfFile : Type 0 where
  -- it is version 2 with the split known, and its numbers are the plain ones, byte for byte
  pub its_numbers : (edition : ℕ) (bytes : List ℕ) (kept : Kept edition bytes) →
      bytes_of (sheet_from edition (card_file_row (check_of edition bytes)).numbers) ≡ bytes_of (plain_sheet edition kept.file)
  -- converted it carries both sets of totals added: it is document 01's, byte for byte
  pub both_sets_added : (edition : ℕ) (bytes : List ℕ) (kept : Kept edition bytes) →
      bytes_of (converted (sheet_from edition (card_file_row (check_of edition bytes)).numbers)) ≡ bytes_of (plain_sheet1 edition kept.file)
  -- and it is allowed, so it is never refused by 17
  pub allowed : (edition : ℕ) (bytes : List ℕ) → (card_file_row (check_of edition bytes)).accepted ≡ true →
      sheet_allowed (sheet_from edition (card_file_row (check_of edition bytes)).numbers) ≡ true
