-- `card_quick::read` meets its contract: bytes that pass are as many as a sale's and are read as its numbers, and anything else goes the slow way.
use Prim.Native.Nat.{ℕ}
use mathlib.Core.Path.{◌≡◌, sym, ◌∙◌, ap}
use mathlib.Core.List.{List}
use mathlib.Core.Bool.{true}
use native.Mathlib.Omega.{arith}
use lib.ListN.{length}
use lib.Seq.{length-take-le, take_all}
use lib.Dec.{eqb}
use borrow.Author.Tests.{eqb-true}
use Rattle.text.proofs.Alphabets.{both_left, both_right}
use Rattle.card_record.specs.declared.reading.Reading.TheVariants.{Cv as cv}
use Rattle.card_quick.specs.Quick.{surely_right, passes_quick, quick_cv}
use Rattle.card_quick.proofs.SurelyRight.{quick_reads}
use Rattle.card_quick.proofs.read.Goals as goal

-- bytes that pass are as many as a sale's
wide : (edition : ℕ) (r : List ℕ) → passes_quick edition r ≡ true → length r ≡ 199
wide edition r pass = eqb-true (length r) 199 (both_left (eqb (length r) 199) (surely_right edition r) pass)

pub slice_bounds-numbers-end : goal.slice_bounds-numbers-end
slice_bounds-numbers-end c =
    let args = c.args in
    let pass = sym c.passes.ensures ∙ c.if-passes.true in
    sym (length-take-le 199 args.bytes.now (omega (arith, wide args.edition args.bytes.now pass)))

pub returns-then-passes : goal.returns-then-passes
returns-then-passes c =
    let args = c.args in
    let bytes = args.bytes.now in
    let pass = sym c.passes.ensures ∙ c.if-passes.true in
    let is = wide args.edition bytes pass in
    let same = take_all 199 bytes (omega (arith, is)) in
    ap cv (c.numbers.ensures ∙ ap quick_cv same) ∙
    quick_reads args.edition bytes is (both_right (eqb (length bytes) 199) (surely_right args.edition bytes) pass)
