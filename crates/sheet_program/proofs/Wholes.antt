-- A sheet that was written into as many bytes as it has is all of them, and one that was converted is the first of them.
use Prim.Native.Nat.{ℕ, ◌≤◌}
use mathlib.Core.Path.{◌≡◌, refl, sym, ◌∙◌, ap}
use mathlib.Core.Logic.{inl, inr}
use mathlib.Core.List.{List, ◌++◌, append-nil}
use mathlib.Core.Bool.{Bool, true, false, true≢false}
use native.Mathlib.Omega.{arith}
use lib.ListN.{length, take, drop, drop_of_length-le}
use lib.Seq.{take_at}
use borrow.Author.Tests.{le-leb}
use Rattle.std.specs.Prelude.{Ok, Err}
use Rattle.refusal.specs.declared.Refusal.{Refusal}
use Rattle.sheet_numbers.specs.declared.sheet.Sheet.{Sheet}
use Rattle.day_sheet.specs.declared.layout.Version.{Version}
use Rattle.day_sheet.specs.declared.layout.Version.TheVariants.{One, Two}
use Rattle.day_sheet.specs.Version.{width_of}
use Rattle.day_sheet.specs.Sheet.{version_of, bytes_of}
use Rattle.day_sheet.specs.Reading.{SheetRead, read_of}
use Rattle.day_sheet.specs.Writing.{SheetWritten, sheet_width, put_result, Writes}
use Rattle.sheet_numbers.specs.Converted.{converted}
use Rattle.day_sheet.specs.Conversion.{convert_result, Converts}
use Rattle.day_sheet.proofs.RoundTrip.{bytes_length}
use Rattle.day_sheet.proofs.Writings.{PutOrRefused, put_or_refused}
use Rattle.sheet_program.specs.SheetRead.{converted_read}

abbrev is_written : SheetWritten → Bool
is_written (Ok none) = true
is_written (Err refusal) = false

module _ (sheet : Sheet) (out : List ℕ) where
  put_there : sheet_width sheet ≤ length out → put_result sheet out ≡ bytes_of sheet ++ drop (sheet_width sheet) out
  unfolding put_result
  put_there h = rw (le-leb (sheet_width sheet) (length out) h)

  pub whole_sheet : {answer : SheetWritten} {after : List ℕ} → length out ≡ sheet_width sheet → Writes sheet out answer after → answer ≡ Ok tt →
      after ≡ bytes_of sheet
  whole_sheet {answer} {after} l w e = by (put_or_refused sheet out w)
    where
      by : PutOrRefused sheet out answer after → after ≡ bytes_of sheet
      by (inl p) =
          p.leaves ∙ put_there (omega arith) ∙ ap (λ (rest : List ℕ). bytes_of sheet ++ rest) (drop_of_length-le out {i = sheet_width sheet} (omega arith)) ∙
          append-nil (bytes_of sheet)
      by (inr left) = absurd (true≢false (ap is_written (sym e ∙ left.1)))

-- there is room for either version
pub width_within : (v : Version) {width : ℕ} → width ≡ width_of v → width ≤ 81
width_within One e = omega arith
width_within Two e = omega arith

pub front_sheet : (bytes out : List ℕ) (sheet : Sheet) {width : ℕ} {answer : SheetWritten} {after : List ℕ} → read_of bytes ≡ Ok sheet → length out ≡ 81 →
    width ≡ sheet_width (converted sheet) → Converts bytes out answer after → take width after ≡ bytes_of (converted sheet)
unfolding convert_result
front_sheet bytes out sheet {width} {answer} {after} e l same w =
    let new = converted sheet in
    let room : sheet_width new ≤ length out = omega (arith, width_within (version_of new) refl) in
    ap (λ (n : ℕ). take n after) same ∙
    ap (take (sheet_width new)) (w.leaves ∙ ap (λ (read : SheetRead). convert_result read out) e ∙ put_there new out room) ∙
    take_at (bytes_of new) (drop (sheet_width new) out) (sheet_width new) (bytes_length new)

-- a refusal stays as it is
pub stays_refused : (bytes : List ℕ) {read : SheetRead} {r : Refusal} → read ≡ read_of bytes → read ≡ Err r → read ≡ converted_read (read_of bytes)
stays_refused bytes e f = f ∙ ap converted_read (sym f ∙ e)
