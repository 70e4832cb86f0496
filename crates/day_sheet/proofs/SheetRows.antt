-- A row fixes what was read: a sheet's row has its version and all its numbers, and a refusal's row is none.
use mathlib.Core.Path.{◌≡◌, refl, ap}
use native.Mathlib.Omega.{arith}
use Rattle.day_sheet.specs.Reading.{SheetRead}
use Rattle.std.specs.Prelude.{Ok, Err}
use Rattle.refusal.specs.Row.{no_refusal}
use Rattle.refusal.proofs.RefusalRows.{not_none}
use Rattle.totals.specs.TwoSets.{sets_of}
use Rattle.sheet_numbers.specs.declared.sheet.Sheet.{Sheet}
use Rattle.sheet_numbers.specs.declared.sheet.Sheet.TheVariants.{Version1, Version2}
use Rattle.day_sheet.specs.Answer.{read_row}

-- what is not refused was read
pub was_read : (answer : SheetRead) → (read_row answer).refusal ≡ no_refusal → (s : Sheet) × (answer ≡ Ok s)
unfolding read_row
was_read (Ok s) e = (s, refl)
was_read (Err r) e = absurd (not_none r e)

same_sheet : (s t : Sheet) → read_row (Ok s) ≡ read_row (Ok t) → s ≡ t
unfolding read_row
same_sheet (Version1 h t) (Version1 h' t') e = λ i. Version1 (e i).heading (e i).totals
same_sheet (Version1 h t) (Version2 h' split sets) e = absurd (omega (arith, ap (λ r. r.version) e))
same_sheet (Version2 h split sets) (Version1 h' t) e = absurd (omega (arith, ap (λ r. r.version) e))
same_sheet (Version2 h split sets) (Version2 h' split' sets') e = λ i. Version2 (e i).heading (e i).split (sets_of (e i).forecast (e i).totals)

pub same_read : (answer : SheetRead) (s : Sheet) → read_row answer ≡ read_row (Ok s) → answer ≡ Ok s
unfolding read_row
same_read (Ok t) s e = ap Ok (same_sheet t s e)
same_read (Err r) (Version1 h t) e = absurd (not_none r (ap (λ row. row.refusal) e))
same_read (Err r) (Version2 h split sets) e = absurd (not_none r (ap (λ row. row.refusal) e))

-- version 1 tells no split
pub split_of_one : (s : Sheet) → (read_row (Ok s)).version ≡ 1 → (read_row (Ok s)).split ≡ 0
unfolding read_row
split_of_one (Version1 h t) e = refl
split_of_one (Version2 h split sets) e = absurd (omega arith)
