-- No verdict has more than 125 bytes, and so no outcome more than a sentence.
use Prim.Native.Nat.{◌≤◌}
use native.Mathlib.Omega.{arith}
use lib.ListN.{length, length-append}
use Rattle.std.specs.Prelude.{Ok, Err}
use Rattle.text.specs.Literal.{ascii}
use Rattle.wording.proofs.Lengths.{line_short, refused_short}
use Rattle.program.proofs.Sentences.{sentence_short}
use Rattle.payroll_file.specs.declared.answer.Accepted.{Accepted as Numbers}
use Rattle.payroll_file.specs.Answer.{PayrollAnswer}
use Rattle.payroll_program.specs.Outcome.{PayrollOutcome}
use Rattle.payroll_program.specs.Verdict.{accepted_text, verdict_text, outcome_text}

accepted_short : (a : Numbers) → length (accepted_text a) ≤ 125
unfolding accepted_text
accepted_short a =
    simp length-append
    (omega (
      arith,
      line_short (ascii "RECORDS") a.records,
      line_short (ascii "BATCHES") a.batches,
      line_short (ascii "PAYMENTS") a.payments,
      line_short (ascii "AMOUNT") a.amount,
    ))

pub verdict_short : (answer : PayrollAnswer) → length (verdict_text answer) ≤ 125
verdict_short (Ok numbers) = accepted_short numbers
verdict_short (Err refusal) = omega (arith, refused_short refusal)

pub outcome_short : (outcome : PayrollOutcome) → length (outcome_text outcome) ≤ 256
outcome_short (Ok answer) = omega (arith, verdict_short answer)
outcome_short (Err mistake) = sentence_short mistake
