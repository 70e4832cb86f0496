-- From one version to the other: what is converted is allowed, so it is readable and, of an edition that is not retired, what the writer would write; from version 1 to 2 and
-- back the bytes are the same, and from version 2 exactly where its split is 0. So what was read is written again, by the writer or by that way back.
use Prim.Native.Nat.{ℕ, ◌≤◌}
use mathlib.Core.Path.{◌≡◌, refl, sym, ◌∙◌, ap, ap₂}
use mathlib.Core.List.{List, ◌++◌}
use mathlib.Core.Bool.{true, false, ◌&&◌}
use native.Mathlib.Omega.{arith}
use lib.ListN.{length, drop}
use lib.Pow.{are_bytes}
use Rattle.std.specs.Prelude.{Ok}
use Rattle.edition.specs.Known.{retired}
use Rattle.text.proofs.Alphabets.{both_left, both_right}
use Rattle.totals.specs.declared.amounts.Totals.{Totals}
use Rattle.totals.specs.Amounts.{added_totals}
use Rattle.totals.specs.TwoSets.{sets_of, both_sets}
use Rattle.sheet_numbers.specs.declared.sheet.Sheet.{Sheet}
use Rattle.sheet_numbers.specs.declared.sheet.Sheet.TheVariants.{Version1, Version2}
use Rattle.day_sheet.specs.Sheet.{bytes_of}
use Rattle.sheet_numbers.specs.Edition.{sheet_edition}
use Rattle.sheet_numbers.specs.Allowed.{set_allowed, sets_allowed, heading_allowed, split_allowed, sheet_allowed}
use Rattle.day_sheet.specs.Reading.{read_of}
use Rattle.day_sheet.specs.Writing.{sheet_width, PutInto, Writes, SheetWritten}
use Rattle.day_sheet.specs.Answer.{read_row}
use Rattle.sheet_numbers.specs.Converted.{converted}
use Rattle.day_sheet.specs.Conversion.{convert_answer, convert_result, Converts, bytes_of_read, converted_bytes}
use Rattle.sheet_numbers.proofs.Allowances.{sets_within}
use Rattle.sheet_numbers.proofs.Conversions.{same_edition, none_added, converted_allowed, is_none}
use Rattle.day_sheet.proofs.RoundTrip.{bytes_length, reads_back, read_allowed, the_one_we_write}
use Rattle.day_sheet.proofs.Writings.{put, was_put}

-- there and back, of a sheet that tells no split: version 1, or version 2 with split 0
pub back_again : (s : Sheet) → sheet_allowed s ≡ true → (read_row (Ok s)).split ≡ 0 → converted (converted s) ≡ s
unfolding converted sheet_allowed split_allowed read_row
back_again (Version1 h t) e z = ap (Version1 h) (none_added t (both_right (heading_allowed h) (set_allowed t) e))
back_again (Version2 h split sets) e z =
    let allowed = both_right (heading_allowed h) (sets_allowed sets && split_allowed split sets.forecast) e in
    let w = sets_within sets (both_left (sets_allowed sets) (split_allowed split sets.forecast) allowed) in
    let none = is_none sets.forecast (rw z at (both_right (sets_allowed sets) (split_allowed split sets.forecast) allowed)) in
    let settled : both_sets sets ≡ sets.settled = ap (λ (f : Totals). added_totals f sets.settled) none ∙ none_added sets.settled w.settled in
    let back = sym z in
    let empty = sym none in
    λ i. Version2 h (back i) (sets_of (empty i) (settled i))

-- what was converted twice tells no split
untold : (s : Sheet) → (read_row (Ok (converted (converted s)))).split ≡ 0
unfolding converted read_row
untold (Version1 h t) = refl
untold (Version2 h split sets) = refl

module _ (l : List ℕ) (s : Sheet) (e : read_of l ≡ Ok s) where
  -- the bytes of the other version are readable, as the sheet that they are meant to be
  pub converted_readable : read_of (converted_bytes l) ≡ Ok (converted s)
  converted_readable = ap (λ r. read_of (bytes_of_read r)) e ∙ reads_back (converted s) (converted_allowed s (read_allowed l s e))

  -- converting puts that sheet, whatever its edition
  pub as_put : (out : List ℕ) {answer : SheetWritten} {after : List ℕ} → Converts l out answer after → PutInto (converted s) out answer after
  unfolding convert_answer convert_result
  as_put out c = record { answers = c.answers ∙ rw e; leaves = c.leaves ∙ rw e }

  -- which is what writing it does, where its edition is not retired: never 17
  pub as_written_lem : retired (sheet_edition s) ≡ false → (out : List ℕ) {answer : SheetWritten} {after : List ℕ} → Converts l out answer after →
      Writes (converted s) out answer after
  as_written_lem new out c = was_put (converted s) out (ap retired (same_edition s) ∙ new) (converted_allowed s (read_allowed l s e)) (as_put out c)

  -- and the way back leads to the same bytes
  pub same_bytes_lem : are_bytes l ≡ true → (read_row (Ok s)).split ≡ 0 → converted_bytes (converted_bytes l) ≡ l
  same_bytes_lem bytes z =
      ap bytes_of_read converted_readable ∙ ap bytes_of (back_again s (read_allowed l s e) z) ∙ the_one_we_write l s e bytes

  -- and to no others
  pub same_untold : converted_bytes (converted_bytes l) ≡ l → (read_row (Ok s)).split ≡ 0
  same_untold same =
      let new = converted_allowed s (read_allowed l s e) in
      let twice = ap (λ r. read_of (bytes_of_read r)) converted_readable ∙ reads_back (converted (converted s)) (converted_allowed (converted s) new) in
      ap (λ r. (read_row r).split) (sym e ∙ sym (ap read_of same) ∙ twice) ∙ untold s

  -- written again into an output that has room
  module _ (bytes : are_bytes l ≡ true) (out : List ℕ) (room : length l ≤ length out) where
    -- put, the sheet is the bytes that it was read from
    put_again : PutInto s out (Ok tt) (l ++ drop (length l) out)
    put_again =
        let same = the_one_we_write l s e bytes in
        let wide : length l ≡ sheet_width s = sym (ap length same) ∙ bytes_length s in
        put s out (omega arith) (ap₂ (λ (b : List ℕ) (n : ℕ). b ++ drop n out) (sym same) wide)

    -- so the writer writes them, of an edition that is not retired
    pub written_again : retired (sheet_edition s) ≡ false → Writes s out (Ok tt) (l ++ drop (length l) out)
    written_again new = was_put s out new (read_allowed l s e) put_again

    -- and converting its other version, where it tells no split
    pub converted_again : (read_row (Ok s)).split ≡ 0 → Converts (converted_bytes l) out (Ok tt) (l ++ drop (length l) out)
    unfolding convert_answer convert_result
    converted_again z =
        let back = back_again s (read_allowed l s e) z in
        record { answers = put_again.answers ∙ sym (rw (converted_readable, back)); leaves = put_again.leaves ∙ sym (rw (converted_readable, back)) }
