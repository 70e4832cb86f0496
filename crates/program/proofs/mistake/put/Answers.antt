-- `program::mistake::put` meets its contract: each arm's equation picks the case of `sentence_of`.
use mathlib.Core.Path.{sym, ap}
use Rattle.program.specs.Sentence.{sentence_of}
use Rattle.wording.proofs.Putting.{reworded, both}
use Rattle.program.proofs.mistake.put.Goals as goal

pub returns-in-Usage : goal.returns-in-Usage
returns-in-Usage c = reworded (ap sentence_of (sym c.in-Usage.is)) (both c.text-end.ensures c.put_arguments.ensures)

pub returns-in-TooLong : goal.returns-in-TooLong
returns-in-TooLong c = reworded (ap sentence_of (sym c.in-TooLong.is)) c.text.ensures

pub returns-in-EditionNoNumber : goal.returns-in-EditionNoNumber
returns-in-EditionNoNumber c = reworded (ap sentence_of (sym c.in-EditionNoNumber.is)) c.text-in-EditionNoNumber.ensures

pub returns-in-OutNoFile : goal.returns-in-OutNoFile
returns-in-OutNoFile c = reworded (ap sentence_of (sym c.in-OutNoFile.is)) c.text-in-OutNoFile.ensures

pub returns-in-System : goal.returns-in-System
returns-in-System c = reworded (ap sentence_of (sym c.in-System.is)) (both c.put_failed-end.ensures c.put.ensures)
