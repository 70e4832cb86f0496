-- The sheet of an accepted file has numbers that are allowed: the file keeps 01's rules, and its numbers are the plain ones. Converted, it is document 01's: both sets added
-- are the totals of all sales, since no sum leaves 64 bits.
use Prim.Native.Nat.{ℕ, ◌≤◌}
use mathlib.Core.Path.{◌≡◌, refl, sym, ◌∙◌, ap, subst}
use mathlib.Core.List.{List}
use mathlib.Core.Bool.{Bool, true, false}
use native.Mathlib.Omega.{arith}
use borrow.Author.Tests.{le-leb, lt-ltb, eq-eqb}
use lib.ListN.{length}
use Rattle.text.proofs.Alphabets.{both}
use Rattle.text.proofs.Numbers.{value_below}
use Rattle.text.specs.Part.{positions}
use Rattle.calendar.specs.Day.{is_day}
use Rattle.edition.specs.Known.{retired}
use Rattle.edition.proofs.Editions.{current_two, not_retired}
use Rattle.totals.specs.declared.amounts.Totals.{Totals}
use Rattle.totals.specs.Sum.{top}
use Rattle.totals.specs.TwoSets.{sets_of, both_sets, summed}
use Rattle.totals.proofs.Totals.{Figure, sales, gross, discount, net, figure_of, no_loss}
use Rattle.card_run.specs.declared.answer.Accepted.{Accepted as Numbers}
use Rattle.std.specs.Prelude.{Some, Ok}
use Rattle.card_file.specs.CardFile.{check_of}
use Rattle.card_kept.specs.Fields.{number_at}
use Rattle.card_kept.specs.Kept.{Transaction, is_sale, is_forecast, is_settled, Kept, picked, transactions_of, sales_of}
use Rattle.card_kept.specs.Numbers.{TotalsOf, Numbers as Plain}
use Rattle.card_kept.proofs.FieldsKept.{part_length}
use Rattle.card_kept.proofs.KeptMeansKept.{kept_means_kept, plain_numbers_lem}
use Rattle.sheet_numbers.specs.declared.sheet.Heading.{Heading}
use Rattle.sheet_numbers.specs.declared.sheet.Sheet.TheVariants.{Version1, Version2}
use Rattle.sheet_numbers.specs.Allowed.{within_limits, set_allowed, sets_allowed, heading_allowed, split_allowed, sheet_allowed}
use Rattle.sheet_numbers.specs.Converted.{converted}
use Rattle.card_sheet.specs.SheetOf.{sheet_from}
use Rattle.card_sheet.specs.PlainSheet.{plain_heading, plain_sheet, plain_sheet1}
use Rattle.card_sheet.proofs.Counts.{batches_below, picked_counted}

module _ {edition : ℕ} {bytes : List ℕ} (k : Kept edition bytes) (a : Numbers) (p : Plain k.file a) where
  -- a set counts some of the file's records, of which there are at most 999999
  few : (test : Transaction → Bool) (t : Totals) → TotalsOf (picked test (transactions_of k.file)) t → t.sales ≤ 999999
  few test t of = omega (arith, ap (λ u. u.sales) of.plain, p.records, p.records_below, picked_counted test k.file)

  within_limits_lem : (test : Transaction → Bool) (t : Totals) → TotalsOf (picked test (transactions_of k.file)) t → within_limits t ≡ true
  unfolding within_limits
  within_limits_lem test t of = rw (le-leb _ _ (few test t of), lt-ltb _ _ of.gross_below, lt-ltb _ _ of.discount_below, lt-ltb _ _ of.net_below)

  set_allowed_lem : (test : Transaction → Bool) (t : Totals) → TotalsOf (picked test (transactions_of k.file)) t → set_allowed t ≡ true
  unfolding set_allowed
  set_allowed_lem test t of = both (within_limits_lem test t of) (eq-eqb _ _ of.agree)

  -- both sets added are the totals of all sales
  all_sales : TotalsOf (sales_of k.file) (both_sets a.totals)
  unfolding figure_of
  all_sales = subst (TotalsOf (sales_of k.file)) (sym (no_loss a.totals.forecast a.totals.settled fits)) p.both
    where
      fits : (f : Figure) → figure_of f (summed a.totals) ≤ top
      fits sales = omega (arith, few is_sale (summed a.totals) p.both)
      fits gross = omega (arith, p.both.gross_below)
      fits discount = omega (arith, p.both.discount_below)
      fits net = omega (arith, p.both.net_below)

  plain_heading_lem : ◌≡◌ {A = Heading} (record { edition = edition; date = a.date; movement = a.movement; batches = a.batches }) (plain_heading edition k.file)
  plain_heading_lem = λ i. record { edition = edition; date = p.date i; movement = p.movement i; batches = p.batches i }

  -- so the sheet is the papers', and in version 1 document 01's
  pub is_plain : sheet_from edition a ≡ plain_sheet edition k.file
  is_plain = λ i. Version2 (plain_heading_lem i) 1 (sets_of (p.forecast.plain i) (p.settled.plain i))

  pub converted_plain : converted (sheet_from edition a) ≡ plain_sheet1 edition k.file
  unfolding converted
  converted_plain = λ i. Version1 (plain_heading_lem i) (all_sales.plain i)

  -- six digits write a number up to 999999
  movement_below : number_at 23 28 k.file.a0 ≤ 999999
  movement_below =
      let wide = k.keeps.a0.wide in
      let six = part_length 23 28 k.file.a0 (omega (arith, wide)) in
      let below = value_below (positions 23 28 k.file.a0) k.keeps.a0.fields.1.1.1.0 in
      omega (arith, rw six at below)

  heading_allowed_lem : heading_allowed (plain_heading edition k.file) ≡ true
  unfolding heading_allowed
  heading_allowed_lem =
      let two = current_two edition k.edition_current in
      let few-batches : length k.file.batches ≤ 999999 = omega (arith, p.records, p.records_below, batches_below k.file) in
      let date-right : is_day (number_at 9 16 k.file.a0) ≡ true = k.keeps.a0.fields.1.0.1 in
      rw (two, date-right, le-leb _ _ movement_below, le-leb _ _ few-batches)

  sets_allowed_lem : sets_allowed a.totals ≡ true
  unfolding sets_allowed
  sets_allowed_lem =
      both (set_allowed_lem is_settled a.totals.settled p.settled)
      (both (set_allowed_lem is_forecast a.totals.forecast p.forecast) (within_limits_lem is_sale (summed a.totals) p.both))

  allowed : sheet_allowed (sheet_from edition a) ≡ true
  unfolding sheet_allowed split_allowed
  allowed = both (ap heading_allowed plain_heading_lem ∙ heading_allowed_lem) (both sets_allowed_lem refl)

module _ (edition : ℕ) (bytes : List ℕ) (a : Numbers) (e : check_of edition bytes ≡ Some (Ok a)) where
  kept : Kept edition bytes
  kept = (kept_means_kept edition bytes).0 (record { numbers = a; answer = e })

  pub accepted_allowed : sheet_allowed (sheet_from edition a) ≡ true
  accepted_allowed = allowed kept a (plain_numbers_lem edition bytes a e kept)

  -- and its edition is not retired
  pub accepted_new : retired edition ≡ false
  accepted_new = not_retired edition kept.edition_current
