-- The day sheets that the papers give a file, from the file's own records.
use Rattle.std.specs.Prelude.{ℕ, length}
use Rattle.totals.specs.TwoSets.{sets_of}
use Rattle.card_kept.specs.Fields.{number_at}
use Rattle.card_kept.specs.Kept.{File, sales_of, forecasts_of, settled_of}
use Rattle.card_kept.specs.Numbers.{plain_totals}
use Rattle.sheet_numbers.specs.declared.sheet.Heading.{Heading}
use Rattle.sheet_numbers.specs.declared.sheet.Sheet.{Sheet}
use Rattle.sheet_numbers.specs.declared.sheet.Sheet.TheVariants.{Version1, Version2}

-- "A0 date, movement, .. batches", "and the edition"
abbrev pub plain_heading : ℕ → File → Heading
plain_heading edition f =
    record { edition = edition; date = number_at 9 16 f.a0; movement = number_at 23 28 f.a0; batches = length f.batches }

-- version 2: "its sales and totals now settled only", the split known, and the forecast's
abbrev pub plain_sheet : ℕ → File → Sheet
plain_sheet edition f = Version2 (plain_heading edition f) 1 (sets_of (plain_totals (forecasts_of f)) (plain_totals (settled_of f)))

-- document 01's, version 1: "sales (CV records), and the totals of payable gross, discount and net over all CV"
abbrev pub plain_sheet1 : ℕ → File → Sheet
plain_sheet1 edition f = Version1 (plain_heading edition f) (plain_totals (sales_of f))
