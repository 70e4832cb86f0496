-- `sheet_program::verdict::put_digits` meets its contract: the word, the digits and the line's end. The digits fill the front of their room.
use Prim.Native.Nat.{ℕ, ◌≤◌}
use mathlib.Core.Path.{◌≡◌, sym, ◌∙◌, ap}
use mathlib.Core.List.{List, ◌++◌}
use native.Mathlib.Omega.{arith}
use lib.ListN.{length, take, length-append}
use lib.Seq.{take_at}
use Rattle.wording.proofs.Putting.{both, last, reworded}
use Rattle.files.proofs.Parts.{front_length}
use Rattle.day_sheet.specs.Number.{in_base}
use Rattle.day_sheet.proofs.Filling.{length_digits}
use Rattle.sheet_program.specs.Verdict.{digits_line}
use Rattle.sheet_program.proofs.verdict.put_digits.Goals as goal

-- the part that is lent is filled with as many digits as it has places, and they stand in front of the rest
module _ {part : List ℕ} (width places n : ℕ) (rest : List ℕ) (lent : width ≡ places) (filled : part ≡ in_base 10 48 places n) where
  wide : length part ≡ width
  wide = ap length filled ∙ length_digits 10 48 places n ∙ sym lent

  inside : width ≤ length (part ++ rest)
  inside = omega (arith, length-append part rest, wide)

  front : take width (part ++ rest) ≡ in_base 10 48 width n
  front = take_at part rest width wide ∙ filled ∙ ap (λ (k : ℕ). in_base 10 48 k n) (sym lent)

pub slice_bounds-put-end : goal.slice_bounds-put-end
slice_bounds-put-end c = front_length _ _ c.requires

pub slice_bounds-digits-end-2 : goal.slice_bounds-digits-end-2
slice_bounds-digits-end-2 c = inside _ _ _ _ (front_length _ _ c.requires) c.put.ensures

pub returns : goal.returns
unfolding digits_line
returns c =
    both c.text-word.ensures (both (reworded (front _ _ _ _ (front_length _ _ c.requires) c.put.ensures) c.text-end.ensures) (last c.text.ensures))
