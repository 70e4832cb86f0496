-- No sentence has more than 256 bytes.
use Prim.Native.Nat.{ℕ, ◌≤◌}
use native.Mathlib.Omega.{arith}
use lib.Dec.{lit≤, eqb}
use lib.ListN.{length, length-append}
use Rattle.text.specs.Literal.{ascii}
use Rattle.wording.proofs.Lengths.{either, line_short}
use Rattle.program.specs.declared.mistake.Program.TheVariants.{Card, Mask, Sheet, Adjustments}
use Rattle.program.specs.declared.mistake.Failed.TheVariants.{Open, Read, Write, Sync, Print}
use Rattle.program.specs.declared.mistake.Failed.{Failed}
use Rattle.program.specs.declared.mistake.Mistake.{Mistake}
use Rattle.program.specs.declared.mistake.Mistake.TheVariants.{Usage, TooLong, EditionNoNumber, OutNoFile, System}
use Rattle.program.specs.Reason.{reason_of, other_reason}
use Rattle.program.specs.Sentence.{failed_of, sentence_of}

other_short : (error : ℕ) → length (other_reason error) ≤ 27
unfolding other_reason
other_short error =
    either (eqb error 5) _ _ 27 (lit≤ tt)
    (either (eqb error 9) _ _ 27 (lit≤ tt)
    (either (eqb error 27) _ _ 27 (lit≤ tt)
    (either (eqb error 28) _ _ 27 (lit≤ tt)
    (either (eqb error 30) _ _ 27 (lit≤ tt)
    (line_short (ascii "error") error)))))

reason_short : (error : ℕ) → length (reason_of error) ≤ 27
unfolding reason_of
reason_short error =
    either (eqb error 2) _ _ 27 (lit≤ tt)
    (either (eqb error 13) _ _ 27 (lit≤ tt)
    (either (eqb error 20) _ _ 27 (lit≤ tt)
    (either (eqb error 21) _ _ 27 (lit≤ tt)
    (either (eqb error 36) _ _ 27 (lit≤ tt)
    (other_short error)))))

failed_short : (failed : Failed) → length (failed_of failed) ≤ 100
failed_short Open = lit≤ tt
failed_short Read = lit≤ tt
failed_short Write = lit≤ tt
failed_short Sync = lit≤ tt
failed_short Print = lit≤ tt

pub sentence_short : (mistake : Mistake) → length (sentence_of mistake) ≤ 256
sentence_short (Usage Card) = lit≤ tt
sentence_short (Usage Mask) = lit≤ tt
sentence_short (Usage Sheet) = lit≤ tt
sentence_short (Usage Adjustments) = lit≤ tt
sentence_short TooLong = lit≤ tt
sentence_short EditionNoNumber = lit≤ tt
sentence_short OutNoFile = lit≤ tt
sentence_short (System failed error) = omega (arith, length-append (failed_of failed) (reason_of error), failed_short failed, reason_short error)
