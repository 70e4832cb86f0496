-- `program::outcome::put` meets its contract: no sentence has more bytes than a text may.
use native.Mathlib.Omega.{arith}
use Rattle.program.proofs.Sentences.{sentence_short}
use Rattle.program.proofs.outcome.put.Goals as goal

pub returns-in-Err-clause-short : goal.returns-in-Err-clause-short
returns-in-Err-clause-short g c = rw c.in-Err.is (omega (arith, sentence_short c.in-Err.mistake))
