-- The sentence of each mistake, on standard error: what is wrong, and how to go on.
use Rattle.std.specs.Prelude.{ℕ, List, ◌++◌}
use Rattle.text.specs.Literal.{ascii}
use Rattle.program.specs.declared.mistake.Program.{Program}
use Rattle.program.specs.declared.mistake.Program.TheVariants.{Card, Mask, Sheet, Adjustments}
use Rattle.program.specs.declared.mistake.Failed.{Failed}
use Rattle.program.specs.declared.mistake.Failed.TheVariants.{Open, Read, Write, Sync, Print}
use Rattle.program.specs.declared.mistake.Mistake.{Mistake}
use Rattle.program.specs.declared.mistake.Mistake.TheVariants.{Usage, TooLong, EditionNoNumber, OutNoFile, System}
use Rattle.program.specs.Reason.{reason_of}

-- the arguments of each program
abbrev pub arguments_of : Program → List ℕ
arguments_of Card = ascii "card EDITION < FILE, or card EDITION FILE.., where EDITION is 2\n"
arguments_of Mask = ascii "mask EDITION FILE OUT, where EDITION is 2\n"
arguments_of Sheet = ascii "sheet EDITION FILE OUT, where EDITION is 2, or sheet --convert FILE OUT, or sheet FILE\n"
arguments_of Adjustments = ascii "adjustments EDITION < FILE, or adjustments EDITION FILE OUT, where EDITION is 2\n"

-- what the system did not do, before the reason that it gives
abbrev pub failed_of : Failed → List ℕ
failed_of Open = ascii "FILE cannot be opened, so check its name and that you may read it: "
failed_of Read = ascii "the file cannot be read to its end, so give a file that can, and no folder: "
failed_of Write = ascii "OUT cannot be written, so give a file's name in a folder where you may write and there is room: "
failed_of Sync = ascii "OUT is written, but its folder cannot be synced, so see that it outlasts a power cut: "
failed_of Print = ascii "the verdict cannot be printed, so see that standard output can be written: "

abbrev pub sentence_of : Mistake → List ℕ
sentence_of (Usage program) = ascii "usage: ./lossivurn " ++ arguments_of program
sentence_of TooLong = ascii "an argument is longer than the name of a file can be: give a shorter one.\n"
sentence_of EditionNoNumber = ascii "EDITION is no number: give 2 (November 2023).\n"
sentence_of OutNoFile = ascii "OUT is there and no regular file: give a file's name, or one that is not there.\n"
sentence_of (System failed error) = failed_of failed ++ reason_of error
