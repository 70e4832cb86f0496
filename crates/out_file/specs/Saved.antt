-- What is told of a file that was to take its path, by where its calls ended and the first error.
use Rattle.std.specs.Prelude.{ℕ, Result, Ok, Err}
use Rattle.program.specs.OfTheFiles.{OfTheFiles}
use Rattle.program.specs.declared.mistake.Mistake.{Mistake}
use Rattle.program.specs.declared.mistake.Mistake.TheVariants.{System}
use Rattle.program.specs.declared.mistake.Failed.TheVariants.{Sync, Write as Writing}
use Rattle.out_file.specs.declared.step.Step.{Step}
use Rattle.out_file.specs.declared.step.Step.TheVariants.{Create, Narrow, Write, Store, Close, Rename, SyncFolder, Abandon, Remove, Kept, Unsynced, Gone}

-- it has its path, or that is told why not
abbrev pub Saved : Type 0
Saved = Result (Unit {0}) Mistake

abbrev pub kept : Saved
kept = Ok tt

-- it is not written
abbrev pub not_written : ℕ → Saved
not_written error = Err (System Writing error)

abbrev pub saved_of : Step → ℕ → Saved
saved_of Create error = not_written error
saved_of Narrow error = not_written error
saved_of Write error = not_written error
saved_of Store error = not_written error
saved_of Close error = not_written error
saved_of Rename error = not_written error
saved_of SyncFolder error = not_written error
saved_of Abandon error = not_written error
saved_of Remove error = not_written error
saved_of Kept error = kept
saved_of Unsynced error = Err (System Sync error)
saved_of Gone error = not_written error

-- whatever is told is a mistake of the files; a mistake of other kinds is told elsewhere, so that it is no invariant of `Mistake`
abbrev pub TellsOfFiles : Saved → Type 0
TellsOfFiles (Ok none) = Unit {0}
TellsOfFiles (Err mistake) = OfTheFiles mistake
