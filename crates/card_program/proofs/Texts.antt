-- No verdict has more than 353 bytes, and no words in a list have more; so no outcome has more than its room.
use Prim.Native.Nat.{ℕ, ◌+◌, ◌*◌, ◌≤◌}
use mathlib.Core.List.{List}
use native.Mathlib.Omega.{arith}
use lib.Dec.{lit≤}
use lib.ListN.{length, length-append}
use Rattle.std.specs.Prelude.{None, Some, Ok, Err}
use Rattle.text.specs.Literal.{ascii}
use Rattle.wording.proofs.Lengths.{line_short, refused_short}
use Rattle.program.proofs.Sentences.{sentence_short}
use Rattle.totals.specs.declared.amounts.Totals.{Totals}
use Rattle.totals.specs.declared.two_sets.TwoSets.{TwoSets}
use Rattle.card_run.specs.declared.answer.Accepted.{Accepted as Numbers}
use Rattle.card_run.specs.Answer.{CardAnswer}
use Rattle.card_program.specs.declared.verdict.Lines.{Lines}
use Rattle.card_program.specs.declared.verdict.Lines.TheVariants.{Sales, Adjustments}
use Rattle.card_program.specs.Outcome.{Outcome}
use Rattle.card_program.specs.Listing.{words_of}
use Rattle.card_program.specs.Verdict.{led_line, totals_text, sets_text, accepted_text, adjusted_text, verdict_text, outcome_text}

pub totals_short : (word : List ℕ) (t : Totals) → length (totals_text word t) ≤ 4 * length word + 109
unfolding led_line totals_text
totals_short word t =
    simp length-append
    (omega (
      arith,
      line_short (ascii "SALES") t.sales,
      line_short (ascii "GROSS") t.amounts.gross,
      line_short (ascii "DISCOUNT") t.amounts.discount,
      line_short (ascii "NET") t.amounts.net,
    ))

pub sets_short : (s : TwoSets) → length (sets_text s) ≤ 286
unfolding sets_text
sets_short s = simp length-append (omega (arith, totals_short (ascii "FORECAST ") s.forecast, totals_short (ascii "SETTLED ") s.settled))

accepted_short : (a : Numbers) → length (accepted_text a) ≤ 353
unfolding accepted_text
accepted_short a =
    simp length-append
    (omega (arith, line_short (ascii "RECORDS") a.records, line_short (ascii "BATCHES") a.batches, sets_short a.totals))

adjusted_short : (a : Numbers) → length (adjusted_text a) ≤ 129
unfolding adjusted_text
adjusted_short a =
    simp length-append
    (omega (
      arith,
      line_short (ascii "CREDITS") a.credits.count,
      line_short (ascii "CREDIT NET") a.credits.net,
      line_short (ascii "DEBITS") a.debits.count,
      line_short (ascii "DEBIT NET") a.debits.net,
    ))

pub verdict_short : (lines : Lines) (answer : CardAnswer) → length (verdict_text lines answer) ≤ 353
verdict_short lines None = lit≤ tt
verdict_short Sales (Some (Ok numbers)) = accepted_short numbers
verdict_short Adjustments (Some (Ok numbers)) = omega (arith, adjusted_short numbers)
verdict_short lines (Some (Err refusal)) = omega (arith, refused_short refusal)

pub words_short : (outcome : Outcome) → length (words_of outcome) ≤ 353
words_short (Ok None) = lit≤ tt
words_short (Ok (Some (Ok numbers))) = accepted_short numbers
words_short (Ok (Some (Err refusal))) = omega (arith, refused_short refusal)
words_short (Err mistake) = lit≤ tt

pub outcome_short : (lines : Lines) (outcome : Outcome) → length (outcome_text lines outcome) ≤ 384
outcome_short lines (Ok answer) = omega (arith, verdict_short lines answer)
outcome_short lines (Err mistake) = omega (arith, sentence_short mistake)
