-- The cases of putting and of writing, by what their tests say; what is put are a sheet's bytes, for either version.
use Prim.Native.Nat.{ℕ, ◌≤◌}
use mathlib.Core.Path.{◌≡◌, sym, ◌∙◌, ap}
use mathlib.Core.Logic.{◌⊎◌, inl, inr}
use mathlib.Core.List.{List, ◌++◌}
use mathlib.Core.Bool.{Bool, true, false, cond}
use borrow.Author.Tests.{le-leb}
use lib.ListN.{length, take, drop}
use lib.Dec.{lit≤}
use Rattle.std.specs.Prelude.{Ok, Err}
use Rattle.refusal.specs.declared.Cause.TheVariants.{SheetNumbersNotAllowed, EditionRetired}
use Rattle.refusal.specs.declared.Refusal.{Refusal}
use Rattle.refusal.specs.Nowhere.{nowhere}
use Rattle.edition.specs.Known.{retired}
use Rattle.sheet_numbers.specs.declared.sheet.Sheet.{Sheet}
use Rattle.sheet_numbers.specs.declared.sheet.Sheet.TheVariants.{Version1, Version2}
use Rattle.day_sheet.specs.Version.{places_of}
use Rattle.day_sheet.specs.Layout.{table_width, in_places}
use Rattle.day_sheet.specs.FirstPlaces.{RoomFor, filled_with}
use Rattle.day_sheet.specs.Sheet.{version_of, sheet_row, bytes_of}
use Rattle.sheet_numbers.specs.Edition.{sheet_edition}
use Rattle.sheet_numbers.specs.Allowed.{sheet_allowed}
use Rattle.day_sheet.specs.Writing.{sheet_width, put_answer, put_result, PutInto, write_answer, write_result, Writes, SheetWritten}

-- the numbers of a sheet's row that its own table has places for
module _ {n : ℕ} {row : List ℕ} where
  pub row_places : (s : Sheet) → row ≡ sheet_row s → n ≡ places_of (version_of s) → n ≤ length row
  unfolding sheet_row
  row_places (Version1 h t) r e = rw (r, e) (lit≤ tt)
  row_places (Version2 h split sets) r e = rw (r, e) (lit≤ tt)

  pub row_length : (s : Sheet) → row ≡ sheet_row s → n ≡ places_of (version_of s) → n ≡ length (take n row)
  unfolding sheet_row
  row_length (Version1 h t) r e = rw (r, e)
  row_length (Version2 h split sets) r e = rw (r, e)

  pub row_room : (s : Sheet) (out : List ℕ) → row ≡ sheet_row s → n ≡ places_of (version_of s) → sheet_width s ≤ length out → RoomFor (length (take n row)) out
  unfolding sheet_row table_width
  row_room (Version1 h t) out r e w = rw (r, e) (lit≤ tt, w)
  row_room (Version2 h split sets) out r e w = rw (r, e) (lit≤ tt, w)

  -- put into an output, they are the sheet's bytes
  pub row_filled : (s : Sheet) (out : List ℕ) → row ≡ sheet_row s → n ≡ places_of (version_of s) → filled_with (take n row) out ≡ bytes_of s ++ drop (sheet_width s) out
  unfolding sheet_row table_width in_places bytes_of
  row_filled (Version1 h t) out r e = rw (r, e)
  row_filled (Version2 h split sets) out r e = rw (r, e)

-- putting
module _ (s : Sheet) (out : List ℕ) where
  pub put : {after : List ℕ} → sheet_width s ≤ length out → after ≡ bytes_of s ++ drop (sheet_width s) out → PutInto s out (Ok tt) after
  unfolding put_answer put_result
  put h e = record { answers = sym (rw (le-leb _ _ h)); leaves = e ∙ sym (rw (le-leb _ _ h)) }

  -- writing
  pub edition_refused : {r : Refusal} → r ≡ nowhere EditionRetired → retired (sheet_edition s) ≡ true → Writes s out (Err r) out
  unfolding write_answer write_result
  edition_refused q e = record { answers = ap Err q ∙ sym (rw e); leaves = sym (rw e) }

  module _ (new : retired (sheet_edition s) ≡ false) where
    pub numbers_refused : {r : Refusal} → r ≡ nowhere SheetNumbersNotAllowed → sheet_allowed s ≡ false → Writes s out (Err r) out
    unfolding write_answer write_result
    numbers_refused q e = record { answers = ap Err q ∙ sym (rw (new, e)); leaves = sym (rw (new, e)) }

    pub was_put : {answer : SheetWritten} {after : List ℕ} → sheet_allowed s ≡ true → PutInto s out answer after → Writes s out answer after
    unfolding write_answer write_result
    was_put e p = record { answers = p.answers ∙ sym (rw (new, e)); leaves = p.leaves ∙ sym (rw (new, e)) }

-- what writing does: it puts the sheet, or refuses before that and leaves the output
abbrev pub PutOrRefused : Sheet → List ℕ → SheetWritten → List ℕ → Type 0
PutOrRefused s out answer after = PutInto s out answer after ⊎ ((r : Refusal) × (answer ≡ Err r) × (after ≡ out))

pub put_or_refused : (s : Sheet) (out : List ℕ) {answer : SheetWritten} {after : List ℕ} → Writes s out answer after → PutOrRefused s out answer after
unfolding write_answer write_result
put_or_refused s out {answer} {after} w = by (retired (sheet_edition s)) (sheet_allowed s) _ _ w.answers w.leaves
  where
    by : (old allowed : Bool) (q r : Refusal) → answer ≡ cond old (Err q) (cond allowed (put_answer s (length out)) (Err r)) →
        after ≡ cond old out (cond allowed (put_result s out) out) → PutOrRefused s out answer after
    by true allowed q r e l = inr (q, e, l)
    by false true q r e l = inl (record { answers = e; leaves = l })
    by false false q r e l = inr (r, e, l)
