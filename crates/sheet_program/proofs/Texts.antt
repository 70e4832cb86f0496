-- No text of a sheet has more than 430 bytes, and so no outcome more than its room.
use Prim.Native.Nat.{ℕ, ◌+◌, ◌≤◌}
use mathlib.Core.Path.{◌≡◌}
use mathlib.Core.List.{List, []}
use native.Mathlib.Omega.{arith}
use lib.ListN.{length, length-append}
use Rattle.std.specs.Prelude.{Ok, Err}
use Rattle.text.specs.Literal.{ascii}
use Rattle.wording.proofs.Lengths.{line_short, refused_short}
use Rattle.program.proofs.Sentences.{sentence_short}
use Rattle.totals.specs.declared.amounts.Totals.{Totals}
use Rattle.totals.specs.declared.two_sets.TwoSets.{TwoSets}
use Rattle.sheet_numbers.specs.declared.sheet.Heading.{Heading}
use Rattle.sheet_numbers.specs.declared.sheet.Sheet.TheVariants.{Version1, Version2}
use Rattle.day_sheet.specs.Reading.{SheetRead}
use Rattle.day_sheet.proofs.Filling.{length_digits}
use Rattle.card_program.proofs.Texts.{totals_short, sets_short}
use Rattle.sheet_program.specs.SheetRead.{SheetOutcome}
use Rattle.sheet_program.specs.Verdict.{digits_line, heading_text, version1_text, version2_text, read_text, outcome_text}

length_line : (name : List ℕ) (width n : ℕ) → length (digits_line name width n) ≡ length name + width + 1
unfolding digits_line
length_line name width n = simp length-append (omega (arith, length_digits 10 48 width n))

heading_short : (h : Heading) → length (heading_text h) ≤ 88
unfolding heading_text
heading_short h =
    simp length-append
    (omega (
      arith,
      line_short (ascii "EDITION") h.edition,
      length_line (ascii "DATE ") 8 h.date,
      length_line (ascii "MOVEMENT ") 6 h.movement,
      line_short (ascii "BATCHES") h.batches,
    ))

version1_short : (h : Heading) (t : Totals) → length (version1_text h t) ≤ 197
unfolding version1_text
version1_short h t = simp length-append (omega (arith, heading_short h, totals_short [] t))

version2_short : (h : Heading) (split : ℕ) (s : TwoSets) → length (version2_text h split s) ≤ 430
unfolding version2_text
version2_short h split s =
    simp length-append (omega (arith, line_short (ascii "VERSION") 2, heading_short h, line_short (ascii "SPLIT") split, sets_short s))

pub read_short : (read : SheetRead) → length (read_text read) ≤ 430
read_short (Ok (Version1 heading totals)) = omega (arith, version1_short heading totals)
read_short (Ok (Version2 heading split sets)) = version2_short heading split sets
read_short (Err refusal) = omega (arith, refused_short refusal)

pub outcome_short : (outcome : SheetOutcome) → length (outcome_text outcome) ≤ 448
outcome_short (Ok read) = omega (arith, read_short read)
outcome_short (Err mistake) = omega (arith, sentence_short mistake)
