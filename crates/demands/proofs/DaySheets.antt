-- Demand 2 for day sheets, from the crates that prove its parts: what they say of answers, said of their rows.
use Prim.Native.Nat.{ℕ}
use mathlib.Core.Path.{◌≡◌, refl, sym, ◌∙◌, ap}
use mathlib.Core.List.{List}
use mathlib.Core.Bool.{true}
use lib.Pow.{are_bytes}
use Rattle.refusal.specs.Row.{no_refusal}
use Rattle.edition.proofs.Editions.{not_retired}
use Rattle.card_run.proofs.FileRows.{is_accepted_lem}
use Rattle.sheet_numbers.specs.Edition.{sheet_edition}
use Rattle.day_sheet.specs.Sheet.{bytes_of}
use Rattle.day_sheet.specs.Reading.{read_of}
use Rattle.day_sheet.specs.Conversion.{converted_bytes}
use Rattle.day_sheet.specs.Answer.{read_row}
use Rattle.day_sheet.proofs.RoundTrip as round
use Rattle.day_sheet.proofs.Writings.{edition_refused}
use Rattle.day_sheet.proofs.ThereAndBack.{converted_readable, as_put, as_written_lem, same_bytes_lem, same_untold, written_again, converted_again}
use Rattle.sheet_numbers.proofs.Conversions.{converted_allowed}
use Rattle.day_sheet.proofs.SheetRows.{was_read, same_read, split_of_one}
use Rattle.card_sheet.proofs.Allowed.{is_plain, converted_plain, accepted_allowed}
use Rattle.demands.specs.DaySheets.{SheetThereAndBack, SheetConverted, SheetOfFile}
use Rattle.demands.proofs.RulesKept.{card_numbers_lem}

pub sheet_there_and_back : SheetThereAndBack
sheet_there_and_back =
    record {
      reads_back = λ s allowed. ap read_row (round.reads_back s allowed);
      its_bytes = λ l s bytes e.
          let read = same_read (read_of l) s e in
          (round.the_one_we_write l s read bytes, round.read_allowed l s read);
      the_one_we_write = λ l s bytes e is out room. written_again l s (same_read (read_of l) s e) bytes out room (not_retired (sheet_edition s) is);
      the_one_conversion_writes = λ l s bytes e z out room. converted_again l s (same_read (read_of l) s e) bytes out room z;
      none_new = λ s is out. edition_refused s out refl is;
      different = round.different;
    }

-- there and back, by the split that the row tells
by_split : (l : List ℕ) → are_bytes l ≡ true → (read_row (read_of l)).refusal ≡ no_refusal → (read_row (read_of l)).split ≡ 0 → converted_bytes (converted_bytes l) ≡ l
by_split l bytes e z =
    let read = was_read (read_of l) e in
    same_bytes_lem l read.0 read.1 bytes (sym (ap (λ r. (read_row r).split) read.1) ∙ z)

-- and only so
came_back : (l : List ℕ) → (read_row (read_of l)).refusal ≡ no_refusal → converted_bytes (converted_bytes l) ≡ l → (read_row (read_of l)).split ≡ 0
came_back l e same =
    let read = was_read (read_of l) e in
    ap (λ r. (read_row r).split) read.1 ∙ same_untold l read.0 read.1 same

-- version 1 tells no split
no_split : (l : List ℕ) → (read_row (read_of l)).refusal ≡ no_refusal → (read_row (read_of l)).version ≡ 1 → (read_row (read_of l)).split ≡ 0
no_split l e v =
    let read = was_read (read_of l) e in
    ap (λ r. (read_row r).split) read.1 ∙ split_of_one read.0 (sym (ap (λ r. (read_row r).version) read.1) ∙ v)

pub sheet_converted : SheetConverted
sheet_converted =
    record {
      readable = λ l s e. ap read_row (converted_readable l s (same_read (read_of l) s e));
      as_put = λ l s e out answer after c. as_put l s (same_read (read_of l) s e) out c;
      as_written_lem = λ l s e is out answer after c. as_written_lem l s (same_read (read_of l) s e) (not_retired (sheet_edition s) is) out c;
      allowed = λ l s e. converted_allowed s (round.read_allowed l s (same_read (read_of l) s e));
      from_one_and_back = λ l bytes e v. by_split l bytes e (no_split l e v);
      from_two_and_back = λ l bytes e v. (came_back l e, by_split l bytes e);
    }

pub sheet_of_file : SheetOfFile
sheet_of_file =
    record {
      its_numbers = λ edition bytes kept. ap bytes_of (is_plain kept _ (card_numbers_lem edition bytes kept));
      both_sets_added = λ edition bytes kept. ap bytes_of (converted_plain kept _ (card_numbers_lem edition bytes kept));
      allowed = λ edition bytes h. accepted_allowed edition bytes _ (is_accepted_lem _ h);
    }
