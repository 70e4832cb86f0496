-- The answers of reading, writing and converting a day sheet: the row that the papers give for each.
use Rattle.std.specs.Prelude.{ℕ, Ok, Err}
use Rattle.refusal.specs.Row.{RefusalRow, no_refusal, refusal_row}
use Rattle.totals.specs.declared.amounts.Totals.{Totals}
use Rattle.totals.specs.Amounts.{no_totals}
use Rattle.sheet_numbers.specs.declared.sheet.Heading.{Heading}
use Rattle.sheet_numbers.specs.declared.sheet.Sheet.TheVariants.{Version1, Version2}
use Rattle.day_sheet.specs.Reading.{SheetRead}
use Rattle.day_sheet.specs.Writing.{SheetWritten}

-- the refusal's number, record and column, and the sheet's numbers; version 1 tells no split and no forecast
pub record SheetRow : Type 0 where
  pub refusal : RefusalRow
  pub version : ℕ
  pub heading : Heading
  -- of all sales, in version 2 of the settled
  pub totals : Totals
  pub split : ℕ
  pub forecast : Totals

-- "All counts and totals in a refused answer are zero"
abbrev pub no_sheet : RefusalRow → SheetRow
no_sheet refusal =
    record {
      refusal = refusal;
      version = 0;
      heading = record { edition = 0; date = 0; movement = 0; batches = 0 };
      totals = no_totals;
      split = 0;
      forecast = no_totals;
    }

unfoldable pub read_row : SheetRead → SheetRow
read_row (Ok (Version1 h t)) = record { refusal = no_refusal; version = 1; heading = h; totals = t; split = 0; forecast = no_totals }
read_row (Ok (Version2 h split sets)) =
    record { refusal = no_refusal; version = 2; heading = h; totals = sets.settled; split = split; forecast = sets.forecast }
read_row (Err r) = no_sheet (refusal_row r)

-- writing answers no numbers
unfoldable pub written_row : SheetWritten → SheetRow
written_row (Ok none) = no_sheet no_refusal
written_row (Err r) = no_sheet (refusal_row r)
